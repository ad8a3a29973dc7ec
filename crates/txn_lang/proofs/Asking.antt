-- A key is asked at most once, and never after a write of it.
use Rattle.std.proofs.Common.{◌≡◌, ℕ, Bool, true, false, List, [], ◌∷◌, Option, Some, None, refl, subst, ℤ}
use Rattle.std.specs.List.{AllByRecursion, IsDistinct}
use Rattle.morty_base.specs.declared.names.Key.{Key}
use Rattle.morty_base.specs.Names.{same_key}
use Rattle.txn_lang.specs.Tree.{commands}
use Rattle.txn_lang.specs.Keys.{Entry, entry, first_of, found}
use Rattle.txn_lang.specs.Actions.{program_actions}
use Rattle.txn_lang.specs.Runs.{Run, replay}
use Rattle.txn_lang.specs.declared.tree.Block.{Block}
use Rattle.txn_lang.specs.Laws.{keys_of, AsksOnce}
use Rattle.txn_lang.proofs.Induction.{outside, IsKept, holds}

abbrev Next : Type 0
Next = ℤ → List Entry → List ℤ → Run

-- a list in whose front no entry of the key stands
none_of : (b : Bool) (x : ℤ) (o : Option ℤ) → first_of b x o ≡ None → (b ≡ false) × (o ≡ None)
none_of true x o e = cc
none_of false x o e = (refl, e)

none_with : (b : Bool) (x : ℤ) (o : Option ℤ) → b ≡ false → o ≡ None → first_of b x o ≡ None
none_with true x o e h = cc
none_with false x o e h = h

-- what is asked is not known, was not read and was not written
record IsNew (known : List Entry) (k : Key) (r : Run) : Type 0 where
  unknown : found known k ≡ None
  reads : found r.reads k ≡ None
  writes : found r.writes k ≡ None

abbrev AsksNew : List Entry → (List ℤ → Run) → Type 0
AsksNew known f = (answers : List ℤ) (k : Key) → (f answers).asks ≡ Some k → IsNew known k (f answers)

asks_new_write : (known : List Entry) (w : Entry) (f : List ℤ → Run) → AsksNew (w ∷ known) f → (answers : List ℤ) (k : Key) → (f answers).asks ≡ Some k → (found known k ≡ None) × (found (w ∷ (f answers).writes) k ≡ None)
asks_new_write known w f h answers k e =
    let new = h answers k e in
    let parts = none_of (same_key w.key k) w.value (found known k) new.unknown in
    (parts.1, none_with (same_key w.key k) w.value (found (f answers).writes k) parts.0 new.writes)

asks_new_read : (known : List Entry) (k : Key) (next : Next) → found known k ≡ None → ((x : ℤ) → AsksNew (entry k x ∷ known) (next x (entry k x ∷ known))) → AsksNew known (outside k known next)
asks_new_read known k next e ih [] j asked =
    let same : k ≡ j = cc in
    record { unknown = subst (λ i. found known i ≡ None) same e; reads = refl; writes = refl }
asks_new_read known k next e ih (x ∷ xs) j asked =
    let new = ih x xs j asked in
    let parts = none_of (same_key k j) x (found known j) new.unknown in
    record { unknown = parts.1; reads = none_with (same_key k j) x (found (next x (entry k x ∷ known) xs).reads j) parts.0 new.reads; writes = new.writes }

asks_new_kept : IsKept AsksNew
asks_new_kept = record {
  ends = λ known how answers k e. cc;
  begins = λ known f h answers k e. let new = h answers k e in record { unknown = new.unknown; reads = new.reads; writes = new.writes };
  prints = λ known x f h answers k e. let new = h answers k e in record { unknown = new.unknown; reads = new.reads; writes = new.writes };
  writes = λ known w f h answers k e. let parts = asks_new_write known w f h answers k e in record { unknown = parts.0; reads = (h answers k e).reads; writes = parts.1 };
  reads = λ known k next e ih. asks_new_read known k next e ih;
}

-- what is read was not known
abbrev ReadsNew : List Entry → (List ℤ → Run) → Type 0
ReadsNew known f = (answers : List ℤ) → AllByRecursion (λ e. found known e.key ≡ None) (f answers).reads

none_behind : (w : Entry) (known es : List Entry) → AllByRecursion (λ e. found (w ∷ known) e.key ≡ None) es → AllByRecursion (λ e. found known e.key ≡ None) es
none_behind w known [] h = tt
none_behind w known (e ∷ es) h = ((none_of (same_key w.key e.key) w.value (found known e.key) h.0).1, none_behind w known es h.1)

reads_new_read : (known : List Entry) (k : Key) (next : Next) → found known k ≡ None → ((x : ℤ) → ReadsNew (entry k x ∷ known) (next x (entry k x ∷ known))) → ReadsNew known (outside k known next)
reads_new_read known k next e ih [] = tt
reads_new_read known k next e ih (x ∷ xs) = (e, none_behind (entry k x) known _ (ih x xs))

reads_new_kept : IsKept ReadsNew
reads_new_kept = record {
  ends = λ known how answers. tt;
  begins = λ known f h. h;
  prints = λ known x f h. h;
  writes = λ known w f h answers. none_behind w known _ (h answers);
  reads = λ known k next e ih. reads_new_read known k next e ih;
}

none_the_same : (w : Entry) (known es : List Entry) → AllByRecursion (λ e. found (w ∷ known) e.key ≡ None) es → AllByRecursion (λ j. same_key w.key j ≡ false) (keys_of es)
none_the_same w known [] h = tt
none_the_same w known (e ∷ es) h = ((none_of (same_key w.key e.key) w.value (found known e.key) h.0).0, none_the_same w known es h.1)

record ReadsDistinct (known : List Entry) (f : List ℤ → Run) : Type 0 where
  unknown : ReadsNew known f
  distinct : (answers : List ℤ) → IsDistinct same_key (keys_of (f answers).reads)

distinct_read : (known : List Entry) (k : Key) (next : Next) → ((x : ℤ) → ReadsDistinct (entry k x ∷ known) (next x (entry k x ∷ known))) → (answers : List ℤ) → IsDistinct same_key (keys_of (outside k known next answers).reads)
unfolding IsDistinct
distinct_read known k next ih [] = tt
distinct_read known k next ih (x ∷ xs) = (none_the_same (entry k x) known _ ((ih x).unknown xs), (ih x).distinct xs)

distinct_none : IsDistinct same_key []
unfolding IsDistinct
distinct_none = tt

distinct_kept : IsKept ReadsDistinct
distinct_kept = record {
  ends = λ known how. record { unknown = reads_new_kept.ends known how; distinct = λ answers. distinct_none };
  begins = λ known f h. record { unknown = h.unknown; distinct = h.distinct };
  prints = λ known x f h. record { unknown = h.unknown; distinct = h.distinct };
  writes = λ known w f h. record { unknown = reads_new_kept.writes known w f h.unknown; distinct = h.distinct };
  reads = λ known k next e ih. record { unknown = reads_new_kept.reads known k next e (λ x. (ih x).unknown); distinct = distinct_read known k next ih };
}

pub asks_once : (body : Block) (n : ℕ) → AsksOnce (replay body n)
asks_once body n =
    let a = program_actions (commands body) n in
    record { distinct = (holds ReadsDistinct distinct_kept a []).distinct; not_read = λ answers k e. (holds AsksNew asks_new_kept a [] answers k e).reads; not_written = λ answers k e. (holds AsksNew asks_new_kept a [] answers k e).writes }

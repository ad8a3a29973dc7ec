-- More answers make a longer run, and each read is of the key that was asked.
use Rattle.std.proofs.Common.{◌≡◌, ℕ, zero, suc, List, [], ◌∷◌, ◌++◌, take, Some, refl, ap, ◌∙◌, ℤ, arith}
use Rattle.std.specs.Prelude.{slice_get}
use Rattle.morty_base.specs.declared.names.Key.{Key}
use Rattle.txn_lang.specs.Tree.{commands}
use Rattle.txn_lang.specs.Keys.{Entry, entry}
use Rattle.txn_lang.specs.Actions.{program_actions}
use Rattle.txn_lang.specs.Runs.{Run, asking, after_read, after_write, after_line, after_begin, replay}
use Rattle.txn_lang.specs.declared.tree.Block.{Block}
use Rattle.txn_lang.specs.Laws.{IsFront, Extends, GrowsWithAnswers, ReadsWhatItAsked}
use Rattle.txn_lang.proofs.Induction.{outside, IsKept, holds}

abbrev Next : Type 0
Next = ℤ → List Entry → List ℤ → Run

front_more : {A : Type 0} (x : A) (xs ys : List A) → IsFront xs ys → IsFront (x ∷ xs) (x ∷ ys)
front_more x xs ys f = (f.0, ap (λ l. x ∷ l) f.1)

front_self : {A : Type 0} (xs : List A) → IsFront xs xs
front_self [] = ([], refl)
front_self (x ∷ xs) = front_more x xs xs (front_self xs)

abbrev Grows : List Entry → (List ℤ → Run) → Type 0
Grows known f = (answers further : List ℤ) → Extends (f answers) (f (answers ++ further))

self : (r : Run) → Extends r r
self r = record { reads = front_self r.reads; writes = front_self r.writes; out = front_self r.out; begun = omega arith }

more_read : (e : Entry) (r s : Run) → Extends r s → Extends (after_read e r) (after_read e s)
more_read e r s h = record { reads = front_more e r.reads s.reads h.reads; writes = h.writes; out = h.out; begun = h.begun }

more_write : (w : Entry) (r s : Run) → Extends r s → Extends (after_write w r) (after_write w s)
more_write w r s h = record { reads = h.reads; writes = front_more w r.writes s.writes h.writes; out = h.out; begun = h.begun }

more_line : (x : ℤ) (r s : Run) → Extends r s → Extends (after_line x r) (after_line x s)
more_line x r s h = record { reads = h.reads; writes = h.writes; out = front_more x r.out s.out h.out; begun = h.begun }

more_begun : (r s : Run) → Extends r s → Extends (after_begin r) (after_begin s)
more_begun r s h = record { reads = h.reads; writes = h.writes; out = h.out; begun = omega (arith, h.begun) }

more_than_nothing : (k : Key) (known : List Entry) (r : Run) → Extends (asking k known) r
more_than_nothing k known r = record { reads = (r.reads, refl); writes = (r.writes, refl); out = (r.out, refl); begun = omega arith }

grows_read : (known : List Entry) (k : Key) (next : Next) → ((x : ℤ) → Grows (entry k x ∷ known) (next x (entry k x ∷ known))) → Grows known (outside k known next)
grows_read known k next ih [] further = more_than_nothing k known (outside k known next further)
grows_read known k next ih (x ∷ xs) further = more_read (entry k x) _ _ (ih x xs further)

grows_kept : IsKept Grows
grows_kept = record {
  ends = λ known how answers further. self _;
  begins = λ known f h answers further. more_begun _ _ (h answers further);
  prints = λ known x f h answers further. more_line x _ _ (h answers further);
  writes = λ known w f h answers further. more_write w _ _ (h answers further);
  reads = λ known k next e ih. grows_read known k next ih;
}

pub grows : (body : Block) (n : ℕ) → GrowsWithAnswers (replay body n)
grows body n = holds Grows grows_kept (program_actions (commands body) n) []

abbrev Each : List Entry → (List ℤ → Run) → Type 0
Each known f = (answers : List ℤ) (i : ℕ) (e : Entry) → slice_get (f answers).reads i ≡ Some e → ((f (take i answers)).asks ≡ Some e.key) × (slice_get answers i ≡ Some e.value)

each_read : (known : List Entry) (k : Key) (next : Next) → ((x : ℤ) → Each (entry k x ∷ known) (next x (entry k x ∷ known))) → Each known (outside k known next)
each_read known k next ih [] i e h = cc
each_read known k next ih (x ∷ xs) zero e h = (cc, cc)
each_read known k next ih (x ∷ xs) (suc i) e h = ih x xs i e h

each_kept : IsKept Each
each_kept = record { ends = λ known how answers i e h. cc; begins = λ known f h. h; prints = λ known x f h. h; writes = λ known w f h. h; reads = λ known k next e ih. each_read known k next ih }

-- with no answers nothing is read, and an asked key is read next
record ReadsNext (known : List Entry) (f : List ℤ → Run) : Type 0 where
  at_first : (f []).reads ≡ []
  next : (answers : List ℤ) (k : Key) (x : ℤ) → (f answers).asks ≡ Some k → (f (answers ++ x ∷ [])).reads ≡ (f answers).reads ++ entry k x ∷ []

next_read : (known : List Entry) (k : Key) (next : Next) → ((x : ℤ) → ReadsNext (entry k x ∷ known) (next x (entry k x ∷ known))) → (answers : List ℤ) (j : Key) (y : ℤ) → (outside k known next answers).asks ≡ Some j → (outside k known next (answers ++ y ∷ [])).reads ≡ (outside k known next answers).reads ++ entry j y ∷ []
next_read known k next ih [] j y e =
    let same : k ≡ j = cc in
    ap (λ l. entry k y ∷ l) (ih y).at_first ∙ ap (λ i. entry i y ∷ []) same
next_read known k next ih (x ∷ xs) j y e = ap (λ l. entry k x ∷ l) ((ih x).next xs j y e)

next_kept : IsKept ReadsNext
next_kept = record {
  ends = λ known how. record { at_first = refl; next = λ answers k x e. cc };
  begins = λ known f h. record { at_first = h.at_first; next = h.next };
  prints = λ known x f h. record { at_first = h.at_first; next = h.next };
  writes = λ known w f h. record { at_first = h.at_first; next = h.next };
  reads = λ known k next e ih. record { at_first = refl; next = next_read known k next ih };
}

pub reads_what_it_asked : (body : Block) (n : ℕ) → ReadsWhatItAsked (replay body n)
reads_what_it_asked body n =
    let a = program_actions (commands body) n in
    record { each = holds Each each_kept a []; next = (holds ReadsNext next_kept a []).next }

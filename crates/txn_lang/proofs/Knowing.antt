-- What a replay knows of a key: its last own write, else its answer.
use Rattle.std.proofs.Common.{◌≡◌, ℕ, Bool, true, false, List, [], ◌∷◌, reverse, Option, Some, None, refl, ap, sym, ◌∙◌, subst, ⊎_elim, ℤ}
use Rattle.std.specs.Option.{option_or}
use Rattle.std.proofs.lemmas.List.{reverse-append}
use Rattle.morty_base.specs.declared.names.Key.{Key}
use Rattle.morty_base.specs.Names.{same_key}
use Rattle.morty_base.proofs.Orders.{same_key_tells}
use Rattle.txn_lang.specs.Tree.{commands}
use Rattle.txn_lang.specs.Keys.{Entry, entry, first_of, found}
use Rattle.txn_lang.specs.Actions.{program_actions}
use Rattle.txn_lang.specs.Runs.{Run, replay}
use Rattle.txn_lang.specs.declared.tree.Block.{Block}
use Rattle.txn_lang.specs.Laws.{KnowsItsOwn}
use Rattle.txn_lang.proofs.Entries.{found-append}
use Rattle.txn_lang.proofs.Induction.{outside, IsKept, holds}

abbrev Next : Type 0
Next = ℤ → List Entry → List ℤ → Run

found_nothing : (o : Option ℤ) → o ≡ option_or None (option_or o None)
found_nothing None = refl
found_nothing (Some x) = refl

option_or_assoc : (a b c : Option ℤ) → option_or (option_or a b) c ≡ option_or a (option_or b c)
option_or_assoc None b c = refl
option_or_assoc (Some x) b c = refl

first_is_or : (b : Bool) (x : ℤ) (o : Option ℤ) → first_of b x o ≡ option_or (first_of b x None) o
first_is_or true x o = refl
first_is_or false x o = refl

abbrev Knows : List Entry → (List ℤ → Run) → Type 0
Knows known f = (answers : List ℤ) (k : Key) → found (f answers).known k ≡ option_or (found (reverse (f answers).writes) k) (option_or (found known k) (found (f answers).reads k))

knows_write : (known : List Entry) (w : Entry) (ws reads : List Entry) (k : Key) → option_or (found (reverse ws) k) (option_or (found (w ∷ known) k) (found reads k)) ≡ option_or (found (reverse (w ∷ ws)) k) (option_or (found known k) (found reads k))
knows_write known w ws reads k =
    let last = found (reverse ws) k in
    let here = first_of (same_key w.key k) w.value None in
    let rest = option_or (found known k) (found reads k) in
    ap (option_or last) (ap (λ o. option_or o (found reads k)) (first_is_or (same_key w.key k) w.value (found known k)) ∙ option_or_assoc here (found known k) (found reads k))
    ∙ sym (option_or_assoc last here rest)
    ∙ ap (λ o. option_or o rest) (sym (found-append (reverse ws) (w ∷ []) k))
    ∙ ap (λ l. option_or (found l k) rest) (sym (reverse-append (w ∷ []) ws))

-- an entry of a key that was not known stands for its first answer
knows_answer : (b : Bool) (x : ℤ) (shown rest : Option ℤ) → (b ≡ true → shown ≡ None) → option_or (first_of b x shown) rest ≡ option_or shown (first_of b x rest)
knows_answer true x shown rest h = sym (ap (λ o. option_or o (Some x)) (h refl))
knows_answer false x shown rest h = refl

true_is_not_false : {b : Bool} → b ≡ true → b ≡ false → ⊥
true_is_not_false t f = cc

unknown_too : (known : List Entry) (k j : Key) → found known k ≡ None → same_key k j ≡ true → found known j ≡ None
unknown_too known k j e same =
    ⊎_elim (λ p. subst (λ i. found known i ≡ None) p.1 e) (λ p. absurd (true_is_not_false same p.0)) (same_key_tells k j)

knows_read : (known : List Entry) (k : Key) (next : Next) → found known k ≡ None → ((x : ℤ) → Knows (entry k x ∷ known) (next x (entry k x ∷ known))) → Knows known (outside k known next)
knows_read known k next e ih [] j = found_nothing (found known j)
knows_read known k next e ih (x ∷ xs) j =
    let r = next x (entry k x ∷ known) xs in
    ih x xs j ∙ ap (option_or (found (reverse r.writes) j)) (knows_answer (same_key k j) x (found known j) (found r.reads j) (unknown_too known k j e))

knows_kept : IsKept Knows
knows_kept = record {
  ends = λ known how answers k. found_nothing (found known k);
  begins = λ known f h. h;
  prints = λ known x f h. h;
  writes = λ known w f h answers k. h answers k ∙ knows_write known w (f answers).writes (f answers).reads k;
  reads = λ known k next e ih. knows_read known k next e ih;
}

pub knows_its_own : (body : Block) (n : ℕ) → KnowsItsOwn (replay body n)
knows_its_own body n answers k = holds Knows knows_kept (program_actions (commands body) n) [] answers k

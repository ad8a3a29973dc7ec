-- A replay takes its answers in order.
use Rattle.std.proofs.Common.{◌≡◌, ℕ, List, [], ◌∷◌, ◌++◌, take, length, Some, None, refl, ap, ℤ, rules}
use Rattle.std.specs.Prelude.{IsSome, IsNone, MatchOption}
use Rattle.morty_base.specs.declared.names.Key.{Key}
use Rattle.txn_lang.specs.Tree.{commands}
use Rattle.txn_lang.specs.Keys.{Entry, entry}
use Rattle.txn_lang.specs.Actions.{program_actions}
use Rattle.txn_lang.specs.Runs.{Run, after_read, after_write, after_line, after_begin, replay}
use Rattle.txn_lang.specs.declared.tree.Block.{Block}
use Rattle.txn_lang.specs.Laws.{values_of, TakesAnswers}
use Rattle.txn_lang.proofs.Induction.{outside, IsKept, holds}

abbrev Next : Type 0
Next = ℤ → List Entry → List ℤ → Run

abbrev InOrder : List Entry → (List ℤ → Run) → Type 0
InOrder known f = (answers : List ℤ) → values_of (f answers).reads ≡ take (length (f answers).reads) answers

in_order_read : (known : List Entry) (k : Key) (next : Next) → ((x : ℤ) → InOrder (entry k x ∷ known) (next x (entry k x ∷ known))) → InOrder known (outside k known next)
in_order_read known k next ih [] = refl
in_order_read known k next ih (x ∷ xs) = ap (λ l. x ∷ l) (ih x xs)

in_order_kept : IsKept InOrder
in_order_kept = record { ends = λ known how answers. refl; begins = λ known f h. h; prints = λ known x f h. h; writes = λ known w f h. h; reads = λ known k next e ih. in_order_read known k next ih }

abbrev AsksOrEnds : List Entry → (List ℤ → Run) → Type 0
AsksOrEnds known f = (answers : List ℤ) → MatchOption (f answers).asks (IsSome (f answers).ending) (λ k. IsNone (f answers).ending)

asks_or_ends_read : (known : List Entry) (k : Key) (next : Next) → ((x : ℤ) → AsksOrEnds (entry k x ∷ known) (next x (entry k x ∷ known))) → AsksOrEnds known (outside k known next)
asks_or_ends_read known k next ih [] = search rules
asks_or_ends_read known k next ih (x ∷ xs) = ih x xs

asks_or_ends_kept : IsKept AsksOrEnds
asks_or_ends_kept = record { ends = λ known how answers. search rules; begins = λ known f h. h; prints = λ known x f h. h; writes = λ known w f h. h; reads = λ known k next e ih. asks_or_ends_read known k next ih }

abbrev AsksPastAll : List Entry → (List ℤ → Run) → Type 0
AsksPastAll known f = (answers : List ℤ) (k : Key) → (f answers).asks ≡ Some k → values_of (f answers).reads ≡ answers

asks_past_all_read : (known : List Entry) (k : Key) (next : Next) → ((x : ℤ) → AsksPastAll (entry k x ∷ known) (next x (entry k x ∷ known))) → AsksPastAll known (outside k known next)
asks_past_all_read known k next ih [] j e = refl
asks_past_all_read known k next ih (x ∷ xs) j e = ap (λ l. x ∷ l) (ih x xs j e)

asks_past_all_kept : IsKept AsksPastAll
asks_past_all_kept = record { ends = λ known how answers k e. cc; begins = λ known f h. h; prints = λ known x f h. h; writes = λ known w f h. h; reads = λ known k next e ih. asks_past_all_read known k next ih }

abbrev NoFurther : List Entry → (List ℤ → Run) → Type 0
NoFurther known f = (answers further : List ℤ) → (f answers).asks ≡ None → f (values_of (f answers).reads ++ further) ≡ f answers

no_further_read : (known : List Entry) (k : Key) (next : Next) → ((x : ℤ) → NoFurther (entry k x ∷ known) (next x (entry k x ∷ known))) → NoFurther known (outside k known next)
no_further_read known k next ih [] further e = cc
no_further_read known k next ih (x ∷ xs) further e = ap (after_read (entry k x)) (ih x xs further e)

no_further_kept : IsKept NoFurther
no_further_kept = record {
  ends = λ known how answers further e. refl;
  begins = λ known f h answers further e. ap after_begin (h answers further e);
  prints = λ known x f h answers further e. ap (after_line x) (h answers further e);
  writes = λ known w f h answers further e. ap (after_write w) (h answers further e);
  reads = λ known k next e ih. no_further_read known k next ih;
}

pub takes_answers : (body : Block) (n : ℕ) → TakesAnswers (replay body n)
takes_answers body n =
    let a = program_actions (commands body) n in
    record { in_order = holds InOrder in_order_kept a []; asks_or_ends = holds AsksOrEnds asks_or_ends_kept a []; asks_past_all = holds AsksPastAll asks_past_all_kept a []; no_further = holds NoFurther no_further_kept a [] }

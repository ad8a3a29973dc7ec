-- The last attempt names the last transaction begun.
use Rattle.std.proofs.Common.{◌≡◌, ℕ, Some, None, cond, Bool, true, false, refl, ap, sym, ◌∙◌, arith}
use Rattle.std.specs.Prelude.{◌==◌}
use Rattle.std.proofs.lemmas.Bool.Decides.{nat_tests}
use Rattle.coordinator.specs.declared.memory.Attempt.{Attempt}
use Rattle.world.proofs.parts.Parts.begun.Goals as goal

-- where none is named, none was begun
none_begun : (n : ℕ) (a : Attempt) (t : Bool) → (n == 0) ≡ t → None ≡ cond t None (Some a) → 0 ≡ n
none_begun n a true q e = let f : n ≡ 0 = grind (arith, nat_tests) in sym f
none_begun n a false q e = absurd (cc e)

one_begun : (n : ℕ) (a b : Attempt) (t : Bool) → b.txn ≡ n → Some a ≡ cond t None (Some b) → a.txn ≡ n
one_begun n a b true q e = absurd (cc e)
one_begun n a b false q e = let f : a ≡ b = cc in ap (λ (x : Attempt). x.txn) f ∙ q

pub returns-in-None : goal.returns-in-None
returns-in-None c = λ l w is. none_begun _ _ _ refl (sym c.in-None.is ∙ c.current.ensures l w is.nodes)

pub returns-in-Some : goal.returns-in-Some
returns-in-Some c = λ l w is. one_begun _ _ _ _ refl (sym c.in-Some.is ∙ c.current.ensures l w is.nodes)

-- The envelopes that were late before a pick and those that become late in it are one list, and what becomes late is no
-- choice any more.
use Rattle.std.proofs.Common.{◌≡◌, ◌∙◌, sym, ap, refl, ℕ, Bool, true, false, cond, List, [], ◌∷◌, ◌++◌, arith}
use Rattle.std.specs.Prelude.{◌||◌, ◌==◌, not, filter}
use Rattle.std.proofs.lemmas.Bool.Decides.{nat_tests}
use Rattle.std.proofs.lemmas.List.Folds.{list_any-append}
use Rattle.net_core.specs.SeededRule.{is_among, timely}

pub among_both : (before now : List ℕ) (i : ℕ) → is_among (before ++ now) i ≡ (is_among before i || is_among now i)
among_both before now i = list_any-append (λ j. j == i) before now

same_either_way : (i j : ℕ) → (i == j) ≡ (j == i)
same_either_way i j = grind (arith, nat_tests)

-- one envelope, which is late already or not, and the one that becomes late or another
one : (test : ℕ → Bool) (i : ℕ) (xs ys : List ℕ) (late is same : Bool) → test i ≡ not is → is ≡ same → filter test xs ≡ ys →
    filter test (cond (not late) (i ∷ xs) xs) ≡ cond (not (late || (same || false))) (i ∷ ys) ys
one test i xs ys true is same tests e rest = rest
one test i xs ys false true true tests e rest = ap (λ t. cond t (i ∷ filter test xs) (filter test xs)) tests ∙ rest
one test i xs ys false false false tests e rest = ap (λ t. cond t (i ∷ filter test xs) (filter test xs)) tests ∙ ap (λ zs. i ∷ zs) rest
one test i xs ys false true false tests e rest = absurd (cc e)
one test i xs ys false false true tests e rest = absurd (cc e)

-- the choices but one are those where that one is late too
pub dropped : (late : List ℕ) (place : ℕ) (fresh : List ℕ) → filter (λ i. not (i == place)) (timely late fresh) ≡ timely (late ++ place ∷ []) fresh
dropped late place [] = refl
dropped late place (i ∷ fresh) =
    one (λ j. not (j == place)) i (timely late fresh) (timely (late ++ place ∷ []) fresh) (is_among late i) (i == place) (place == i) refl
    (same_either_way i place) (dropped late place fresh)
    ∙ ap (λ t. cond (not t) (i ∷ timely (late ++ place ∷ []) fresh) (timely (late ++ place ∷ []) fresh)) (sym (among_both late (place ∷ []) i))

-- Sums over the nodes, and the rank that is made of three of them.
use Rattle.std.proofs.Common.{◌≡◌, ℕ, zero, suc, ◌+◌, ◌*◌, ◌<◌, ◌≤◌, List, [], ◌∷◌, length, Option, Some, None, sym, subst, mul-le-mul_right, arith}
use Rattle.std.specs.List.{slice_get}
use Rattle.morty_base.specs.declared.names.NodeId.{NodeId}
use Rattle.runner.specs.Progress.{total, rank_of}

-- no term grows, so the sum does not
pub total_le : (f g : NodeId → ℕ) (ns : List NodeId) → ((n : NodeId) → g n ≤ f n) → total g ns ≤ total f ns
total_le f g [] le = omega arith
total_le f g (n ∷ ns) le = let here = le n in let rest = total_le f g ns le in omega arith

-- and one falls, so the sum does
pub total_less : (f g : NodeId → ℕ) (ns : List NodeId) (slot : ℕ) (n : NodeId) → slice_get ns slot ≡ Some n → ((k : NodeId) → g k ≤ f k) → g n < f n →
    total g ns < total f ns
total_less f g [] slot n here le less = absurd (let t : ◌≡◌ {A = Option NodeId} None (Some n) = here in cc)
total_less f g (k ∷ ns) zero n here le less =
    let t : ◌≡◌ {A = Option NodeId} (Some k) (Some n) = here in
    let same : k ≡ n = cc in
    let less' : g k < f k = subst (λ (x : NodeId). g x < f x) (sym same) less in
    let rest = total_le f g ns le in
    omega arith
total_less f g (k ∷ ns) (suc slot) n here le less = let first = le k in let rest = total_less f g ns slot n here le less in omega arith

-- where each term is at most one, the sum is at most the number of nodes
pub total_few : (f : NodeId → ℕ) (ns : List NodeId) → ((n : NodeId) → f n ≤ 1) → total f ns ≤ length ns
total_few f [] few = omega arith
total_few f (n ∷ ns) few = let here = few n in let rest = total_few f ns few in omega arith

-- two numbers, of which the first counts more
step_less : (k a a' b b' : ℕ) → a' < a → b' < k → a' * k + b' < a * k + b
step_less k a a' b b' less few = let products : (suc a') * k ≤ a * k = mul-le-mul_right {m = suc a'} {n = a} k (omega (arith, less)) in omega arith

step_le : (k a a' b b' : ℕ) → a' ≤ a → b' ≤ b → a' * k + b' ≤ a * k + b
step_le k a a' b b' le le' = let products : a' * k ≤ a * k = mul-le-mul_right k le in omega arith

-- a rank with fewer turns left
pub fewer_turns : (k t t' j j' u u' : ℕ) → t' < t → j' < k → u' < k → rank_of k t' j' u' < rank_of k t j u
fewer_turns k t t' j j' u u' less few few' = step_less k (t * k + j) (t' * k + j') u u' (step_less k t t' j j' less few) few'

-- with fewer jobs
pub fewer_jobs : (k t t' j j' u u' : ℕ) → t' ≤ t → j' < j → u' < k → rank_of k t' j' u' < rank_of k t j u
fewer_jobs k t t' j j' u u' le less few =
    step_less k (t * k + j) (t' * k + j') u u' (let products : t' * k ≤ t * k = mul-le-mul_right k le in omega arith) few

-- with fewer nodes that are not marked
pub fewer_unmarked : (k t t' j j' u u' : ℕ) → t' ≤ t → j' ≤ j → u' < u → rank_of k t' j' u' < rank_of k t j u
fewer_unmarked k t t' j j' u u' le le' less =
    let outer : (t' * k + j') * k ≤ (t * k + j) * k = mul-le-mul_right k (step_le k t t' j j' le le') in omega arith

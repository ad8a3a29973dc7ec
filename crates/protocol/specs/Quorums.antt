-- Quorums: any two of them share a replica.
use Rattle.std.specs.Prelude.{ℕ, suc, ◌/◌, List, [], ◌∷◌, length, ◌<◌, ◌≤◌}
use Rattle.protocol.specs.Lists.{IsIn}

-- how many of n replicas are a quorum: f + 1 of 2f + 1
abbrev pub quorum : ℕ → ℕ
quorum n = suc (n / 2)

-- no element stands twice in the list
abbrev pub HasNoRepeats : {A : Type 0} → List A → Type 0
HasNoRepeats [] = Unit {0}
HasNoRepeats (x ∷ xs) = (IsIn x xs → ⊥) × HasNoRepeats xs

-- P holds of the members of a quorum of the replicas 1 to n
pub record Quorum (n : ℕ) (P : ℕ → Type 0) : Type 0 where
  pub members : List ℕ
  pub distinct : HasNoRepeats members
  pub ranged : (r : ℕ) → IsIn r members → (0 < r) × (r ≤ n)
  pub each : (r : ℕ) → IsIn r members → P r
  pub many : quorum n ≤ length members

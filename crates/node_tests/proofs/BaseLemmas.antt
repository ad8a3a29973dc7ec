-- A base of one entry at most rises.
use Rattle.std.proofs.Common.{ℕ, ◌≤◌, Bool, List, [], ◌∷◌, length, arith}
use Rattle.protocol.specs.Lists.{IsRisingBy}

pub short_rises : {A : Type 0} (earlier : A → A → Bool) (xs : List A) → length xs ≤ 1 → IsRisingBy earlier xs
short_rises earlier [] few = tt
short_rises earlier (x ∷ []) few = ((λ y none. absurd none), tt)
short_rises earlier (x ∷ y ∷ zs) few = absurd (omega arith)

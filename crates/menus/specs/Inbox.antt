-- The envelopes to a node, by their numbers.
use Rattle.std.specs.Prelude.{◌≡◌, ℕ, true, not, ◌==◌, nat_lt, List, filter}
use Rattle.protocol.specs.Words.{NodeId, Envelope}
use Rattle.protocol.specs.Lists.{IsIn, IsRisingBy}
use Rattle.menus.specs.Shown.{fresh_from, old_to}

-- the numbers of those that were not delivered yet, rising, and of the delivered ones, in the order of first delivery
pub record Arrived : Type 0 where
  pub fresh : List ℕ
  pub delivered : List ℕ

abbrev pub AreRising : List ℕ → Type 0
AreRising = IsRisingBy nat_lt

-- each of them is below i
abbrev pub AreBelow : ℕ → List ℕ → Type 0
AreBelow i is = (j : ℕ) → IsIn j is → nat_lt j i ≡ true

-- all but i
abbrev pub without : ℕ → List ℕ → List ℕ
without i is = filter (λ j. not (j == i)) is

-- the inbox of node n, where this was sent and these places of it were delivered
pub record IsInboxOf (n : NodeId) (mail : List Envelope) (delivered : List ℕ) (b : Arrived) : Type 0 where
  pub fresh : b.fresh ≡ fresh_from delivered n 0 mail
  pub old : b.delivered ≡ old_to mail n delivered

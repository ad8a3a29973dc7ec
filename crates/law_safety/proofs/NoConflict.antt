-- No two committed executions are in conflict.
use Rattle.std.proofs.Common.{◌≡◌, ◌<◌, refl, true, false, Bool}
use Rattle.protocol.specs.Words.{Exec, Content, Prepare}
use Rattle.protocol.specs.Replica.Votes.{conflicts}
use Rattle.protocol.specs.World.State.{Plan, World}
use Rattle.protocol.specs.World.Decided.{WasSent}
use Rattle.law_steps.proofs.Reach.{Reach}
use Rattle.law_steps.proofs.AlwaysLemmas.{always}
use Rattle.law_safety.specs.Agreement.{NoConflict, NoConflictOf}
use Rattle.law_safety.proofs.TruncationSettles.{apart_locks, CommitSent}
use Rattle.law_safety.proofs.CommitIsSent.{committed_sent}
use Rattle.law_safety.proofs.InvariantHolds.{both_reach, conflict_locks}

module _ (p : Plan) (pos : 0 < p.replicas) where
  apart : (w : World) (q : Reach p w) → (x y : Exec) (k l : Content) → CommitSent w x → CommitSent w y → WasSent w (Prepare x k) → WasSent w (Prepare y l) →
      conflicts x.ver k y.ver l ≡ false
  apart w q x y k l a b t u = go (conflicts x.ver k y.ver l) refl
    where
      go : (z : Bool) → conflicts x.ver k y.ver l ≡ z → z ≡ false
      go false f = refl
      go true f = let s = (both_reach p pos w q).0 in absurd (apart_locks p pos w q s x (conflict_locks p pos w q s (both_reach p pos w q).1 x k t y l b u f) a)

  committed_apart : (w : World) → Reach p w → NoConflictOf p w
  committed_apart w q x y k l a b t u = apart w q x y k l (committed_sent p pos w q x a) (committed_sent p pos w q y b) t u

pub no_conflict : NoConflict
no_conflict = always NoConflictOf committed_apart

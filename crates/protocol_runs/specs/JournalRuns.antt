-- Journals of small runs, which are computed.
use Rattle.std.specs.Prelude.{◌≡◌, ℕ, List, [], ◌∷◌, reverse}
use Rattle.protocol.specs.Words.{Client, Replica, Quiet, Spent, Event, Picked, Ran, Idle, Deliver, Go}
use Rattle.protocol.specs.World.State.{Plan}
use Rattle.protocol_runs.specs.Samples.{inc, only, plan, four}
use Rattle.net_core.specs.Fair.{IsFairRun}
use Rattle.world_rows.specs.Machine.{machine_of, world_after}

-- so many replicas, and one client that runs inc
abbrev pub small : ℕ → Plan
small replicas = plan replicas 0 (only inc 10 ∷ []) four 1

-- one client and one replica
abbrev pub one_replica : List Event
one_replica =
    Picked (Client 1) Go ∷ Picked (Replica 1) Idle ∷ Ran 1 ∷ Picked (Replica 1) (Deliver 0) ∷
    Picked (Client 1) (Deliver 1) ∷ Picked (Replica 1) Idle ∷ Ran 1 ∷ Picked (Replica 1) (Deliver 2) ∷
    Picked (Client 1) Idle ∷ Picked (Replica 1) (Deliver 3) ∷ Picked (Client 1) (Deliver 4) ∷
    Picked (Replica 1) (Deliver 5) ∷ Picked (Client 1) Idle ∷ Picked (Replica 1) Idle ∷ []

-- the same where each node may make one turn alone
abbrev pub one_turn_each : List Event
one_turn_each = Picked (Client 1) Go ∷ Picked (Replica 1) Idle ∷ Ran 1 ∷ Picked (Replica 1) (Deliver 0) ∷ []

-- nobody has anything to do
abbrev pub nothing_to_do : List Event
nothing_to_do = Picked (Client 1) Idle ∷ Picked (Replica 1) Idle ∷ Picked (Replica 2) Idle ∷ Picked (Replica 3) Idle ∷ []

-- each ends as it has to, after so many events that moved the world
pub record SmallRuns : Type 0 where
  pub quiet : IsFairRun (machine_of (small 1)) 5000 (reverse one_replica) Quiet
  pub quiet_events : (world_after (small 1) (reverse one_replica)).moved ≡ 9
  pub spent : IsFairRun (machine_of (small 1)) 1 (reverse one_turn_each) Spent
  pub spent_events : (world_after (small 1) (reverse one_turn_each)).moved ≡ 3
  pub idle : IsFairRun (machine_of (plan 3 0 ([] ∷ []) [] 1)) 5000 (reverse nothing_to_do) Quiet

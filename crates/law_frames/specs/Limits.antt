-- What the laws of frames ask of a plan.
use Rattle.std.specs.Prelude.{ℕ, ℤ, ◌<◌, ◌≤◌, List, length}
use Rattle.std.specs.List.{slice_get}
use Rattle.wire.specs.Values.{most_short}
use Rattle.wire.specs.Frame.{client, replica, warden, most_nodes}
use Rattle.protocol.specs.Client.State.{Walk, walk_at}
use Rattle.protocol.specs.World.State.{Plan, rules}
use Rattle.protocol_plans.specs.Scripted.{Scripted, plan_of}
use Rattle.protocol_plans.specs.Limits.{IsScript}

-- on each list of answers a program reads, writes and prints no more than a frame has room for
pub record IsShortWalk (walk : List ℤ → Walk) : Type 0 where
  pub keys : (answers : List ℤ) → length (walk answers).keys ≤ most_short
  pub writes : (answers : List ℤ) → length (walk answers).writes ≤ most_short
  pub out : (answers : List ℤ) → length (walk answers).out ≤ most_short

-- a plan has a replica, its nodes are not more than a frame can number, and each transaction of each client is short
pub record PlanIsWithinLimits (p : Plan) : Type 0 where
  pub clients : length p.clients ≤ most_nodes client
  pub some_replica : 0 < p.replicas
  pub replicas : p.replicas ≤ most_nodes replica
  pub wardens : p.wardens ≤ most_nodes warden
  pub walks : (c n : ℕ) → IsShortWalk (walk_at (slice_get (rules p c).txns n))

-- the plan of a script within its limits is so
abbrev pub ScriptsAreWithinLimits : Type 0
ScriptsAreWithinLimits = (s : Scripted) → IsScript s → PlanIsWithinLimits (plan_of s)

-- A world that events led to from its origin, and what was done of a job of it.
use Rattle.continuation.specs.declared.segment.Job.{Job}
use Rattle.continuation.specs.Job.{Finished}
use Rattle.net_core.specs.Machine.{History}
use Rattle.world.specs.declared.origin.Origin.{Origin}
use Rattle.world.specs.declared.world.World.{World}
use Rattle.world.specs.World.{IsUsable, Stands}
use Rattle.world.specs.Jobs.{IsDoneOf}

-- the world of the origin after some history
pub record IsWorldOf (o : Origin) (w : World) : Type 0 where
  pub history : History
  pub stands : Stands w o history
  pub usable : IsUsable w

-- this was done of some job, on the code of the origin
pub record IsWorkOf (o : Origin) (d : Finished) : Type 0 where
  pub job : Job
  pub is : IsDoneOf o job d

-- The pending jobs of a world, and what was done of a job.
use Rattle.std.specs.Prelude.{◌≡◌, Option, Some, None, slice_get}
use Rattle.protocol.specs.Words.{NodeId, Client}
use Rattle.continuation.specs.declared.segment.Job.{Job}
use Rattle.continuation.specs.Job.{Finished}
use Rattle.world.specs.declared.origin.Origin.{Origin}
use Rattle.world.specs.declared.world.World.{World as Kept}
use Rattle.world.specs.World.{pending_at}

-- only clients have jobs
abbrev pub pending_of : Kept → NodeId → Option Job
pending_of k (Client c) = pending_at k.parts c
pending_of k _ = None

-- this was done of a job, on the code of its program
abbrev pub IsDoneOf : Origin → Job → Finished → Type 0
IsDoneOf o j d = (d.job ≡ j) × (slice_get o.kit j.prog ≡ Some d.code)

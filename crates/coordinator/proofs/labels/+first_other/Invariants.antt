-- The reads that are left grow fewer.
use Rattle.std.proofs.Common.{length}
use Rattle.coordinator.proofs.labels.+first_other.Given as goal

abbrev pub decreases-first_other : goal.decreases-first_other
decreases-first_other l = length l.reads.now

-- The reads that are left grow fewer.
use Rattle.std.proofs.Common.{length}
use Rattle.coordinator.proofs.labels.+place_of.Given as goal

abbrev pub decreases-place_of : goal.decreases-place_of
decreases-place_of l = length l.reads.now

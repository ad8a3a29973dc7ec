-- The reads that are left grow fewer.
use Rattle.std.proofs.Common.{length}
use Rattle.coordinator.proofs.labels.+has_change.Given as goal

abbrev pub decreases-has_change : goal.decreases-has_change
decreases-has_change l = length l.reads.now

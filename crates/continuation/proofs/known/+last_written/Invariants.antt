use Rattle.std.proofs.Common.{length}
use Rattle.continuation.proofs.known.+last_written.Given as goal

abbrev pub decreases-last_written : goal.decreases-last_written
decreases-last_written l = length l.wrote.now

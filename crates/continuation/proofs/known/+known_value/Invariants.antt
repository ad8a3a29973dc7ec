use Rattle.std.proofs.Common.{length}
use Rattle.continuation.proofs.known.+known_value.Given as goal

abbrev pub decreases-known_value : goal.decreases-known_value
decreases-known_value l = length l.known.now

use Rattle.std.proofs.Common.{length}
use Rattle.exec_log.proofs.knowledge.+rank.Given as goal

abbrev pub decreases-rank : goal.decreases-rank
decreases-rank l = length l.known.now

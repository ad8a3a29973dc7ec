use Rattle.std.proofs.Common.{length}
use Rattle.exec_log.proofs.knowledge.+put_reads.Given as goal

abbrev pub decreases-put_reads : goal.decreases-put_reads
decreases-put_reads l = length l.reads.now

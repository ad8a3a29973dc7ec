use Rattle.std.proofs.Common.{length}
use Rattle.lang_tests.proofs.logs.+answer_all.Given as goal

abbrev pub decreases-answer_all : goal.decreases-answer_all
decreases-answer_all g l = length l.rows.now

-- The Tolds that are left grow fewer.
use Rattle.std.proofs.Common.{length}
use Rattle.recovery.proofs.proposal.+told_decision.Given as goal

abbrev pub decreases-told_decision : goal.decreases-told_decision
decreases-told_decision l = length l.tolds.now

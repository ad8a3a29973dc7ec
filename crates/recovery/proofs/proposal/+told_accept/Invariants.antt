-- The Tolds that are left grow fewer.
use Rattle.std.proofs.Common.{length}
use Rattle.recovery.proofs.proposal.+told_accept.Given as goal

abbrev pub decreases-told_accept : goal.decreases-told_accept
decreases-told_accept l = length l.tolds.now

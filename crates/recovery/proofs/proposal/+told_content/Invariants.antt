-- The Tolds that are left grow fewer.
use Rattle.std.proofs.Common.{length}
use Rattle.recovery.proofs.proposal.+told_content.Given as goal

abbrev pub decreases-told_content : goal.decreases-told_content
decreases-told_content l = length l.tolds.now

use Rattle.law_frames.proofs.SendableIsWithinLimits as proved
use Rattle.law_frames.proofs.sendable_is_within_limits.Goals as goal

pub returns : goal.returns
returns c = proved.sendable_is_within_limits

use Rattle.law_frames.proofs.ScriptsAreWithinLimits as proved
use Rattle.law_frames.proofs.scripts_are_within_limits.Goals as goal

pub returns : goal.returns
returns c = proved.scripts_are_within_limits

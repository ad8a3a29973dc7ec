use Rattle.law_safety.proofs.FenceNames as proved
use Rattle.law_safety.proofs.fence_names.Goals as goal

pub returns : goal.returns
returns c = proved.fence_names

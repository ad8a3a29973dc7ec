use Rattle.law_safety.proofs.BaseIsOne as proved
use Rattle.law_safety.proofs.base_is_one.Goals as goal

pub returns : goal.returns
returns c = proved.base_is_one

use Rattle.law_safety.proofs.BaseOfDrop as proved
use Rattle.law_safety.proofs.base_of_drop.Goals as goal

pub returns : goal.returns
returns c = proved.base_of_drop

use Rattle.law_safety.proofs.BaseOfWorld as proved
use Rattle.law_safety.proofs.base_of_world.Goals as goal

pub returns : goal.returns
returns c = proved.base_of_world

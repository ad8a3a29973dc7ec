use Rattle.law_safety.proofs.DropSettles as proved
use Rattle.law_safety.proofs.drop_settles.Goals as goal

pub returns : goal.returns
returns c = proved.drop_settles

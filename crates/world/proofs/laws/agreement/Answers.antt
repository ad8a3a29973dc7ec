use Rattle.world.proofs.LawsOfWorlds as proved
use Rattle.world.proofs.laws.agreement.Goals as goal

pub returns : goal.returns
returns c = proved.agreement

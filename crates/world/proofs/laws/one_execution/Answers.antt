use Rattle.world.proofs.LawsOfWorlds as proved
use Rattle.world.proofs.laws.one_execution.Goals as goal

pub returns : goal.returns
returns c = proved.one_execution

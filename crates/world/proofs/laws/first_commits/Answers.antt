use Rattle.world.proofs.LawsOfWorlds as proved
use Rattle.world.proofs.laws.first_commits.Goals as goal

pub returns : goal.returns
returns c = proved.first_commits

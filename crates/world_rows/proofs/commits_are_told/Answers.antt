-- The law, as its file proves it.
use Rattle.world_rows.proofs.CommitsAreTold as proved
use Rattle.world_rows.proofs.commits_are_told.Goals as goal

pub returns : goal.returns
returns c = proved.commits_are_told

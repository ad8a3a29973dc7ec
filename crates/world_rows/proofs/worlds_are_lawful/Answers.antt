use Rattle.world_rows.proofs.Lawful.{machines_are_lawful}
use Rattle.world_rows.proofs.worlds_are_lawful.Goals as goal

pub returns : goal.returns
returns c = machines_are_lawful

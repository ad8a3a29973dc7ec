use Rattle.world.proofs.LawsOfWorlds as proved
use Rattle.world.proofs.laws.serial_reads.Goals as goal

pub returns : goal.returns
returns c = proved.serial_reads

use Rattle.law_serial.proofs.ReadsNoted as proved
use Rattle.law_serial.proofs.reads_noted.Goals as goal

pub returns : goal.returns
returns c = proved.reads_noted

use Rattle.law_serial.proofs.ReadsSure as proved
use Rattle.law_serial.proofs.reads_sure.Goals as goal

pub returns : goal.returns
returns c = proved.reads_sure

use Rattle.law_serial.proofs.ReadsCurrent as proved
use Rattle.law_serial.proofs.reads_current.Goals as goal

pub returns : goal.returns
returns c = proved.reads_current

use Rattle.law_serial.proofs.DropsAreSerial as proved
use Rattle.law_serial.proofs.drops_are_serial.Goals as goal

pub returns : goal.returns
returns c = proved.drops_are_serial

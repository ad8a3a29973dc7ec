use Rattle.law_serial.proofs.SerialBase as proved
use Rattle.law_serial.proofs.serial_base.Goals as goal

pub returns : goal.returns
returns c = proved.serial_base

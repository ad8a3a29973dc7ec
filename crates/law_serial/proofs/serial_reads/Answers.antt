use Rattle.law_serial.proofs.SerialReads as proved
use Rattle.law_serial.proofs.serial_reads.Goals as goal

pub returns : goal.returns
returns c = proved.serial_reads

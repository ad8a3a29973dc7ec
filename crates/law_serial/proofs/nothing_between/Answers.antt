use Rattle.law_serial.proofs.NothingBetween as proved
use Rattle.law_serial.proofs.nothing_between.Goals as goal

pub returns : goal.returns
returns c = proved.nothing_between

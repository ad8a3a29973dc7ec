use Rattle.law_serial.proofs.PutsAreFronts as proved
use Rattle.law_serial.proofs.puts_are_fronts.Goals as goal

pub returns : goal.returns
returns c = proved.puts_are_fronts

-- The law as it is proved in BasicLaws.
use Rattle.protocol.proofs.BasicLaws as proved
use Rattle.protocol.proofs.laws.events_move.Goals as goal

pub returns : goal.returns
returns c = proved.events_move

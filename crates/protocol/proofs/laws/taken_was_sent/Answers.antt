-- The law as it is proved in BasicLaws.
use Rattle.protocol.proofs.BasicLaws as proved
use Rattle.protocol.proofs.laws.taken_was_sent.Goals as goal

pub returns : goal.returns
returns c = proved.taken_was_sent

-- The law as it is proved in BasicLaws.
use Rattle.protocol.proofs.BasicLaws as proved
use Rattle.protocol.proofs.laws.replicas_grow.Goals as goal

pub returns : goal.returns
returns c = proved.replicas_grow

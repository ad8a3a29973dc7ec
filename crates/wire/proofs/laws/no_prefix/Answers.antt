-- No frame begins another.
use Rattle.wire.proofs.Decoding.{no_prefix}
use Rattle.wire.proofs.laws.no_prefix.Goals as goal

pub returns : goal.returns
returns c = no_prefix

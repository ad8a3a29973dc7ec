-- A cut frame is Short.
use Rattle.wire.proofs.Decoding.{cut_is_short}
use Rattle.wire.proofs.laws.cut_is_short.Goals as goal

pub returns : goal.returns
returns c = cut_is_short

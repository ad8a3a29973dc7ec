-- No envelope has two frames.
use Rattle.wire.proofs.Decoding.{one_frame}
use Rattle.wire.proofs.laws.one_frame.Goals as goal

pub returns : goal.returns
returns c = one_frame

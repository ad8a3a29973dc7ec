-- An envelope that may be sent has a head and a body that their fields admit.
use Rattle.wire.proofs.Sendable.{may_write}
use Rattle.wire.proofs.frames.put_envelope.Goals as goal

pub put_head-requires : goal.put_head-requires
put_head-requires c = let h = may_write c.args.envelope.now c.requires in (h.from, h.to)

pub put_body-requires : goal.put_body-requires
put_body-requires c = let h = may_write c.args.envelope.now c.requires in h.body

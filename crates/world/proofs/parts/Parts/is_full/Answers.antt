use Rattle.std.proofs.Common.{ap}
use Rattle.std.specs.Prelude.{nat_le}
use Rattle.protocol.specs.World.State.{mail_limit}
use Rattle.protocol.specs.World.Committed.{nodes as nodes_of}
use Rattle.world.proofs.parts.Parts.is_full.Goals as goal

pub returns : goal.returns
returns c = λ l w is. ap (nat_le mail_limit) (c.sent.ensures (nodes_of l.plan) w.mail w.delivered w.stopped is.boxes)

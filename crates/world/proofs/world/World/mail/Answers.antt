use Rattle.protocol.specs.World.Committed.{nodes as nodes_of}
use Rattle.world.specs.Origin.{plan, world_at}
use Rattle.world.proofs.world.World.mail.Goals as goal

pub returns : goal.returns
returns c = λ o h s. c.mail.ensures (nodes_of (plan o)) (world_at o h).mail (world_at o h).delivered (world_at o h).stopped s.after.world.boxes

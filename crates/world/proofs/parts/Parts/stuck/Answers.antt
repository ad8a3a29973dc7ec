use Rattle.std.proofs.Common.{ap, sym, ◌∙◌}
use Rattle.protocol.specs.World.Committed.{nodes as nodes_of}
use Rattle.world_rows.specs.Machine.{stuck_for}
use Rattle.world.proofs.parts.Parts.stuck.Goals as goal

pub returns-in-Warden : goal.returns-in-Warden
returns-in-Warden c = λ l w is. c.stuck.ensures (nodes_of l.plan) w.mail w.delivered w.stopped is.boxes ∙ ap (stuck_for w) (sym c.in-Warden.is)

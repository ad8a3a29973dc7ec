use Rattle.std.proofs.Common.{ap, ◌∙◌}
use Rattle.protocol.specs.World.State.{is_live}
use Rattle.world.specs.Origin.{plan, loads, world_at}
use Rattle.world.proofs.NodeSlots.{of_slot}
use Rattle.world.proofs.machine.WorldMachine.live.Goals as goal

pub returns : goal.returns
returns c = λ o h n s at.
    c.is_live.ensures.live (loads o s.after.origin) (world_at o h) s.after.world
    ∙ ap (is_live (plan o) (world_at o h)) (of_slot c.args.self.now o h s c.args.slot n c.node.result at c.node.ensures)

use Rattle.std.proofs.Common.{Some, ap, sym, ◌∙◌}
use Rattle.protocol.specs.Words.{NodeId}
use Rattle.world_rows.specs.Machine.{menu_in}
use Rattle.world.specs.Origin.{plan, loads, world_at}
use Rattle.world.proofs.NodeSlots.{of_slot}
use Rattle.world.proofs.world.World.shown.Goals as goal

pub returns : goal.returns
returns c = λ o h n s at.
    let same = of_slot c.args.self.now o h s c.args.slot n c.node.result at c.node.ensures in
    let here = at ∙ ap (λ (m : NodeId). Some m) (sym same) in
    c.menu.ensures (loads o s.after.origin) (world_at o h) s.after.world s.whole.sound.views here ∙ ap (menu_in (plan o) (world_at o h)) same

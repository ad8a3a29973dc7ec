use Rattle.std.proofs.Common.{ap, sym, ◌∙◌}
use Rattle.protocol.specs.Words.{Client}
use Rattle.world_rows.specs.Machine.{is_pending}
use Rattle.world.specs.Origin.{world_at}
use Rattle.world.specs.MachineLaws.{pending_told}
use Rattle.world.proofs.NodeSlots.{of_slot}
use Rattle.world.proofs.machine.WorldMachine.has_job.Goals as goal

pub returns-in-Client : goal.returns-in-Client
returns-in-Client c = λ o h n s at.
    c.has_job.ensures.told ∙ sym (pending_told c.args.self.now o h s (Client c.in-Client.client))
    ∙ ap (is_pending (world_at o h)) (sym c.in-Client.is ∙ of_slot c.args.self.now o h s c.args.slot n c.node.result at c.node.ensures)

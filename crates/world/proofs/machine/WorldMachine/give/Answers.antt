use Rattle.std.proofs.Common.{sym, ◌∙◌, subst}
use Rattle.std.proofs.lemmas.Result.{IfOk-weaker}
use Rattle.net_core.specs.Replay.{IsGiven}
use Rattle.world_rows.specs.Machine.{machine_of}
use Rattle.world.specs.Origin.{plan}
use Rattle.world.specs.World.{Stands}
use Rattle.world.specs.Jobs.{pending_of, IsDoneOf}
use Rattle.world.proofs.NodeSlots.{of_slot}
use Rattle.world.proofs.machine.WorldMachine.give.Goals as goal

pub returns-in-Client-clause-given : goal.returns-in-Client-clause-given
returns-in-Client-clause-given c = IfOk-weaker c.take_done.result _ _ (λ out f. λ o h n s at.
    let k = c.args.self.now in
    let node = sym c.in-Client.is ∙ of_slot k o h s c.args.slot n c.node.result at c.node.ensures in
    subst (λ m. IsGiven (machine_of (plan o)) (pending_of k m) (λ j. IsDoneOf o j c.args.done.now) h m out (Stands c.take_done.new.self o)) node (f o h s))
    c.take_done.ensures.given

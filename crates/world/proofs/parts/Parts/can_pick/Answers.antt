use Rattle.std.proofs.Common.{◌≡◌, ap, sym, ◌∙◌}
use Rattle.std.specs.Prelude.{is_some}
use Rattle.protocol.specs.World.Events.{pick_moves}
use Rattle.protocol.specs.World.Committed.{nodes as nodes_of}
use Rattle.world_rows.proofs.Enabling.{deliver_when, stop_when, others_when}
use Rattle.world.proofs.parts.Parts.can_pick.Goals as goal

pub returns-in-Deliver : goal.returns-in-Deliver
returns-in-Deliver c = λ l w is views.
    c.is_to.ensures (nodes_of l.plan) w.mail w.delivered w.stopped is.boxes ∙ sym (deliver_when l.plan w c.args.node c.in-Deliver.i)
    ∙ ap (λ k. is_some (pick_moves l.plan w c.args.node k)) (sym c.in-Deliver.is)

pub returns-in-Stop : goal.returns-in-Stop
returns-in-Stop c = λ l w is views. sym (stop_when l.plan w c.args.node) ∙ ap (λ k. is_some (pick_moves l.plan w c.args.node k)) (sym c.in-Stop.is)

pub returns-in_default : goal.returns-in_default
returns-in_default c = λ l w is views.
    c.can_pick.ensures l w is.nodes views ∙ others_when l.plan w c.args.node c.args.pick (λ i e. c.in_default.not-Deliver i e) (λ e. c.in_default.not-Stop e)

use Rattle.std.proofs.Common.{◌≡◌, ap, sym, ◌∙◌}
use Rattle.std.specs.Prelude.{◌&&◌, is_some}
use Rattle.protocol.specs.Words.{Client, Picked, Ran}
use Rattle.protocol.specs.Client.Step.Input.{Runs}
use Rattle.protocol.specs.World.State.{is_live}
use Rattle.protocol.specs.World.Events.{client_input, enabled, pick_moves}
use Rattle.world_rows.proofs.Enabling.{enabled_when, ran_when}
use Rattle.world.proofs.parts.Parts.can.Goals as goal

pub returns-then-is_live : goal.returns-then-is_live
returns-then-is_live c = λ l w is views.
    let live = sym (c.is_live.ensures.live l w is) ∙ c.if-is_live.true in
    c.can_pick.ensures l w is views ∙ sym (ap (λ t. t && is_some (pick_moves l.plan w c.in-Picked.node c.in-Picked.pick)) live)
    ∙ sym (enabled_when l.plan w (Picked c.in-Picked.node c.in-Picked.pick)) ∙ ap (λ e. is_some (enabled l.plan w e)) (sym c.in-Picked.is)

pub returns-else-is_live : goal.returns-else-is_live
returns-else-is_live c = λ l w is views.
    let live = sym (c.is_live.ensures.live l w is) ∙ c.if-is_live.false in
    c.if-is_live.false ∙ sym (ap (λ t. t && is_some (pick_moves l.plan w c.in-Picked.node c.in-Picked.pick)) live)
    ∙ sym (enabled_when l.plan w (Picked c.in-Picked.node c.in-Picked.pick)) ∙ ap (λ e. is_some (enabled l.plan w e)) (sym c.in-Picked.is)

pub returns-then-is_live-2 : goal.returns-then-is_live-2
returns-then-is_live-2 c = λ l w is views.
    let live = sym (c.is_live-in-Ran.ensures.live l w is) ∙ c.if-is_live-2.true in
    c.has_job.ensures.pending l w is.nodes ∙ sym (ran_when l.plan w c.in-Ran.client)
    ∙ sym (ap (λ t. t && is_some (client_input l.plan w c.in-Ran.client Runs)) live)
    ∙ sym (enabled_when l.plan w (Ran c.in-Ran.client)) ∙ ap (λ e. is_some (enabled l.plan w e)) (sym c.in-Ran.is)

pub returns-else-is_live-2 : goal.returns-else-is_live-2
returns-else-is_live-2 c = λ l w is views.
    let live = sym (c.is_live-in-Ran.ensures.live l w is) ∙ c.if-is_live-2.false in
    c.if-is_live-2.false ∙ sym (ap (λ t. t && is_some (client_input l.plan w c.in-Ran.client Runs)) live)
    ∙ sym (enabled_when l.plan w (Ran c.in-Ran.client)) ∙ ap (λ e. is_some (enabled l.plan w e)) (sym c.in-Ran.is)

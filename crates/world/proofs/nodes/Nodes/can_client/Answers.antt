-- A client goes and hurries, and does nothing else by itself.
use Rattle.std.proofs.Common.{ap, sym, ◌∙◌}
use Rattle.protocol.specs.Words.{Client}
use Rattle.world_rows.specs.Machine.{can_pick}
use Rattle.world.proofs.PickLemmas.{goes_is, hurries_is, client_not}
use Rattle.world.proofs.nodes.Nodes.can_client.Goals as goal

pub returns-in-Go : goal.returns-in-Go
returns-in-Go c = λ l w are.
    let n = c.args.number in
    c.can_go.ensures l w.client are.clients ∙ goes_is l.plan w n ∙ ap (can_pick l.plan w (Client n)) (sym c.in-Go.is)

pub returns-in-Hurry : goal.returns-in-Hurry
returns-in-Hurry c = λ l w are.
    let n = c.args.number in
    c.can_hurry.ensures l w.client are.clients ∙ hurries_is l.plan w n ∙ ap (can_pick l.plan w (Client n)) (sym c.in-Hurry.is)

pub returns-in_default : goal.returns-in_default
returns-in_default c = λ l w are. client_not l.plan w c.args.number c.args.pick c.in_default.not-Go c.in_default.not-Hurry

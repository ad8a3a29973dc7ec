-- A warden recovers and truncates, and does nothing else by itself.
use Rattle.std.proofs.Common.{ap, sym, ◌∙◌}
use Rattle.protocol.specs.Words.{Warden}
use Rattle.world_rows.specs.Machine.{can_pick}
use Rattle.world.specs.NodeJobs.{has_is}
use Rattle.world.proofs.PickLemmas.{recovers_is, truncates_is, warden_not}
use Rattle.world.proofs.nodes.Nodes.can_warden.Goals as goal

pub returns-in-Recover : goal.returns-in-Recover
returns-in-Recover c = λ l w are views.
    let k = c.args.number in
    let x = c.in-Recover.exec in
    let there = sym (has_is l w c.args.self.now (Warden k) are) ∙ c.requires in
    c.can_recover.ensures l.plan w.warden are.wardens ∙ recovers_is l.plan w k x (views k there x) ∙ ap (can_pick l.plan w (Warden k)) (sym c.in-Recover.is)

pub returns-in-Truncate : goal.returns-in-Truncate
returns-in-Truncate c = λ l w are views.
    let k = c.args.number in
    c.can_truncate.ensures l.plan w.warden are.wardens ∙ truncates_is l.plan w k c.in-Truncate.ver ∙ ap (can_pick l.plan w (Warden k)) (sym c.in-Truncate.is)

pub returns-in_default : goal.returns-in_default
returns-in_default c = λ l w are views. warden_not l.plan w c.args.number c.args.pick c.in_default.not-Recover c.in_default.not-Truncate

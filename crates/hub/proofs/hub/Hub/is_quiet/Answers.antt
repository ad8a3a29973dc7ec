use Rattle.std.proofs.Common.{◌≡◌, ◌<◌, length, reverse, false, sym, ◌∙◌, ap, arith, rules}
use Rattle.net_core.specs.Marks.{rests}
use Rattle.std.proofs.lemmas.Option.{slice_get_within}
use Rattle.hub.specs.Views.{history}
use Rattle.hub.proofs.Lists.{get_there, all_fails, all_from}
use Rattle.hub.proofs.hub.Hub.is_quiet.Goals as goal

pub returns-then-not-rests : goal.returns-then-not-rests
returns-then-not-rests g c = λ whole s is.
    let whole' : c.self.inside.broken ≡ false = ap (λ v. v.broken) c.self.view_is ∙ whole in
    let kept = c.self.invariant.3 whole' s is in
    let nodes = (g.M.Machine.rules s.origin).nodes in
    let count = g.met.M.Machine.counted c.self.inside.machine s.origin (reverse c.self.inside.journal.items) kept.run.replay in
    let lt : c.loop-slot.slot < length nodes = omega (arith, c.self.invariant.0.nodes_are, count, c.loop-slot-test.true, c.len-nodes.ensures) in
    let there = get_there nodes c.loop-slot.slot lt in
    sym (all_fails (rests (g.M.Machine.rules s.origin) (history c.args.self.now)) nodes c.loop-slot.slot there.0 there.1
    (let r = c.rests.ensures whole s there.0 is there.1 in search rules))

pub returns : goal.returns
returns g c = λ whole s is.
    let whole' : c.self.inside.broken ≡ false = ap (λ v. v.broken) c.self.view_is ∙ whole in
    let kept = c.self.invariant.3 whole' s is in
    let nodes = (g.M.Machine.rules s.origin).nodes in
    let count = g.met.M.Machine.counted c.self.inside.machine s.origin (reverse c.self.inside.journal.items) kept.run.replay in
    sym (all_from (rests (g.M.Machine.rules s.origin) (history c.args.self.now)) nodes (λ k n e.
    let lt : k < length nodes = slice_get_within nodes k n e in
    c.loop-slot.invariant whole s k n is (omega (arith, c.self.invariant.0.nodes_are, count, c.loop-slot-test.false, c.loop-slot.auto, c.len-nodes.ensures)) e))

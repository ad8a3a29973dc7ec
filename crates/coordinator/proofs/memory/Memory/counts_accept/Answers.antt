-- What is left is to decide what a quorum accepted.
use Rattle.std.proofs.Common.{◌∙◌, ap, sym, subst}
use Rattle.protocol.specs.Client.State.{Turn}
use Rattle.coordinator.specs.Memory.{Takes}
use Rattle.coordinator.specs.Counting.{chosen}
use Rattle.coordinator.proofs.EnvelopeLemmas.{takes_idle}
use Rattle.coordinator.proofs.memory.Memory.counts_accept.Goals as goal

pub returns-in_default : goal.returns-in_default
returns-in_default c = λ g k content votes proposal accepts s is.
    let l = c.in_ok-decided.ensures g k content votes proposal accepts s is in
    takes_idle g l.now c.count_accept.new.self _ c.new.result l.stands (l.turn ∙ ap (chosen g.rules l.now content) c.in_default.is) c.new.ensures

pub returns : goal.returns
returns c = λ g k content votes proposal accepts s is.
    let l = c.in_ok-decided.ensures g k content votes proposal accepts s is in
    subst (λ (t : Turn). Takes g t c.decide.new.self c.in_ok-out.out) (sym (l.turn ∙ ap (chosen g.rules l.now content) c.in-Some.is))
    (c.in_ok-out.ensures g l.now content l.votes l.proposal l.accepts l.stands l.phase)

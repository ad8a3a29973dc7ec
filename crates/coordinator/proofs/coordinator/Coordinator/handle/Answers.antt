-- The step of a client to which an envelope comes.
use Rattle.std.proofs.Common.{sym, subst}
use Rattle.protocol.specs.Client.State.{Turn}
use Rattle.coordinator.specs.Memory.{Takes}
use Rattle.coordinator.proofs.StepLemmas.{does}
use Rattle.coordinator.proofs.EnvelopeLemmas.{comes_step}
use Rattle.coordinator.proofs.coordinator.Coordinator.handle.Goals as goal

pub returns-clause-turn : goal.returns-clause-turn
returns-clause-turn c = λ g k t s step.
    does g t c.comes.new.self c.in_ok-sent.sent c.as_slice.result.now c.args.out.now c.send.new.out
    (subst (λ (u : Turn). Takes g u c.comes.new.self c.in_ok-sent.sent) (sym (comes_step g.rules k t c.args.env.now.from c.args.env.now.body step)) (c.in_ok-sent.ensures g k s.memory))
    c.as_slice.ensures c.in_ok-send.ensures.ok

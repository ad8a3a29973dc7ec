-- The step of a client that waits for votes no longer.
use Rattle.std.proofs.Common.{None, sym, subst}
use Rattle.protocol.specs.Client.State.{Turn}
use Rattle.coordinator.specs.Memory.{Takes}
use Rattle.coordinator.proofs.StepLemmas.{hurries_step, does}
use Rattle.coordinator.proofs.coordinator.Coordinator.hurry.Goals as goal

pub returns-clause-turn : goal.returns-clause-turn
returns-clause-turn c = λ g k t s step.
    let turn = hurries_step g.rules k t step in
    does g t c.hurry.new.self c.in_ok-sent.sent c.as_slice.result.now c.args.out.now c.send.new.out
    (subst (λ (u : Turn). Takes g u c.hurry.new.self c.in_ok-sent.sent) (sym turn.4) (c.in_ok-sent.ensures g k turn.0 turn.1 None turn.2 s.memory turn.3))
    c.as_slice.ensures c.in_ok-send.ensures.ok

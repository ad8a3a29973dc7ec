-- The step of a client that begins an attempt.
use Rattle.std.proofs.Common.{sym, subst}
use Rattle.protocol.specs.Client.State.{Turn}
use Rattle.coordinator.specs.Memory.{StandsFor}
use Rattle.coordinator.proofs.AttemptLemmas.{goes}
use Rattle.coordinator.proofs.coordinator.Coordinator.go.Goals as goal

pub returns-clause-stands : goal.returns-clause-stands
returns-clause-stands c = λ g k t s e.
    let is = goes g.rules k t e in
    record {
      memory = subst (λ (u : Turn). StandsFor g u.state c.go.new.self) (sym is.1) (c.go.ensures g k s.memory is.0);
      whole = s.whole;
    }

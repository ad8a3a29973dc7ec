-- The attempt that begins is the one of the definitions.
use Rattle.std.proofs.Common.{◌∙◌, sym, subst}
use Rattle.protocol.specs.Client.Attempts.{go}
use Rattle.coordinator.specs.Execution as execution
use Rattle.coordinator.specs.Memory.{StandsFor, current}
use Rattle.coordinator.specs.declared.memory.Memory.{Memory}
use Rattle.coordinator.proofs.AttemptLemmas.{stands_again, stands_next}
use Rattle.coordinator.proofs.memory.Memory.go.Goals as goal

pub returns-then-tries_again : goal.returns-then-tries_again
returns-then-tries_again c = λ g k s may.
    let o = current g.programs c.args.self.now.plan c.args.self.now.course.begun in
    subst (StandsFor g (go g.rules k).state) (sym c.begin.ensures.value)
    (stands_again g k c.args.self.now c.saturating_add.result s (sym (c.tries_again.ensures g k s) ∙ c.if-tries_again.true) c.saturating_add.ensures
    (subst (λ (m : Memory). execution.StandsFor o m.execution) c.begin.ensures.value (c.begin.ensures.fresh o)))

pub returns-else-tries_again : goal.returns-else-tries_again
returns-else-tries_again c = λ g k s may.
    let o = current g.programs c.args.self.now.plan c.saturating_add-else-tries_again.result in
    subst (StandsFor g (go g.rules k).state) (sym c.begin-else-tries_again.ensures.value)
    (stands_next g k c.args.self.now c.saturating_add-else-tries_again.result s (sym (c.tries_again.ensures g k s) ∙ c.if-tries_again.false) may
    c.saturating_add-else-tries_again.ensures
    (subst (λ (m : Memory). execution.StandsFor o m.execution) c.begin-else-tries_again.ensures.value (c.begin-else-tries_again.ensures.fresh o)))

-- The answer at a place has the next label there.
use Rattle.std.proofs.Common.{ap, sym, ◌∙◌}
use Rattle.coordinator.specs.Answers.{next_at}
use Rattle.coordinator.proofs.AnswersLemmas.{next_there}
use Rattle.coordinator.proofs.execution.Execution.next.Goals as goal

pub returns : goal.returns
returns c = c.next_at.ensures ∙ ap (λ l. next_at l c.args.i) c.as_slice.ensures ∙ sym (next_there c.args.self.now c.args.i c.requires)

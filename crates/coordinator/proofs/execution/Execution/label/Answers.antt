-- The answer at a place has the label of the read there.
use Rattle.std.proofs.Common.{ap, sym, ◌∙◌}
use Rattle.protocol.specs.Client.State.{Answer}
use Rattle.coordinator.proofs.AnswersLemmas.{answer_there}
use Rattle.coordinator.proofs.execution.Execution.label.Goals as goal

pub returns : goal.returns
returns c = c.held_of.ensures ∙ ap (λ (a : Answer). a.label) (sym (answer_there c.args.self.now.log.reads c.args.self.now.nexts c.args.i c.read.result c.read.ensures))

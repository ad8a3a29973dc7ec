-- The answers are sure where the reads are.
use Rattle.std.proofs.Common.{ap, sym, ◌∙◌}
use Rattle.coordinator.specs.Answers.{are_sure}
use Rattle.coordinator.proofs.AnswersLemmas.{sure_with}
use Rattle.coordinator.proofs.execution.Execution.is_sure.Goals as goal

pub returns : goal.returns
returns c = c.are_sure.ensures ∙ ap are_sure c.entries.ensures ∙ sym (sure_with c.args.self.now.log.reads c.args.self.now.nexts)

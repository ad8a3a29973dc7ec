-- All reads take their next labels.
use Rattle.std.proofs.Common.{◌∙◌, ap}
use Rattle.coordinator.specs.Answers.{answers_with}
use Rattle.coordinator.proofs.MovingLemmas.{all_moved}
use Rattle.coordinator.proofs.execution.Execution.move_all.Goals as goal

pub returns-clause-answers : goal.returns-clause-answers
returns-clause-answers c = λ whole.
    ap (answers_with c.move_before.new.self.log.reads) c.new.ensures
    ∙ all_moved c.args.self.now c.move_before.new.self c.reads-end.result (c.move_before.ensures.log whole) c.reads-end.ensures c.requires

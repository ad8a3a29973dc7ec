-- The read has another label, and its value.
use Rattle.std.proofs.Common.{refl, ap, ◌∙◌}
use Rattle.exec_log.specs.Log.{Log}
use Rattle.coordinator.specs.Answers.{answers_with}
use Rattle.coordinator.proofs.AnswersLemmas.{labelled_with}
use Rattle.coordinator.proofs.ExecutionLemmas.{stands_relabelled}
use Rattle.coordinator.proofs.execution.Execution.relabel.Goals as goal

pub returns-clause-stands : goal.returns-clause-stands
returns-clause-stands c = λ o s.
    stands_relabelled o c.args.self.now (record { log = c.label.new.self; job = c.args.self.now.job; nexts = c.args.self.now.nexts })
    c.args.i c.args.wid c.args.sure c.requires s c.label.ensures.stands c.label.ensures.label refl

pub returns-clause-answers : goal.returns-clause-answers
returns-clause-answers c = λ whole.
    ap (λ (x : Log). answers_with x.reads c.args.self.now.nexts) (c.label.ensures.label whole)
    ∙ labelled_with c.args.self.now.log.reads c.args.self.now.nexts c.args.i c.args.wid c.args.sure (c.requires whole)

pub returns-clause-log : goal.returns-clause-log
returns-clause-log c = λ whole. ap (λ (x : Log). record c.args.self.now { log = x }) (c.label.ensures.label whole)

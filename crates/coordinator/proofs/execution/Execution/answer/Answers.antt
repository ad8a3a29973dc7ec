-- The answered question is one more answer, and its job is the last one.
use Rattle.std.proofs.Common.{◌≡◌, w64, to_z, of_z, rules}
use Rattle.coordinator.proofs.AnswersLemmas.{asked_with}
use Rattle.coordinator.proofs.ExecutionLemmas.{asking_is_begun, stands_answered}
use Rattle.coordinator.proofs.execution.Execution.answer.Goals as goal

pub returns-clause-stands : goal.returns-clause-stands
returns-clause-stands c = λ o s.
    stands_answered o c.args.self.now (record { log = c.answer.new.self; job = c.in_ok-self.field-0; nexts = c.args.self.now.nexts }) s
    (asking_is_begun c.args.self.now c.requires)
    c.in_ok-self.ensures.stands c.in_ok-self.ensures.last c.in_ok-self.ensures.whole

pub returns-clause-answers : goal.returns-clause-answers
returns-clause-answers c = λ none.
    let same : to_z w64 (of_z w64 c.args.label.value) ≡ c.args.label.value = search rules in
    asked_with c.args.self.now c.answer.new.self.reads c.args.label (to_z w64 (of_z w64 c.args.label.value)) same c.requires c.in_ok-self.ensures.reads none

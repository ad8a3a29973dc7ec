-- The read that is gone back to has the new answer, and its job is the last one.
use Rattle.std.proofs.Common.{◌≡◌, w64, to_z, of_z, rules}
use Rattle.coordinator.proofs.AnswersLemmas.{rewound_with}
use Rattle.coordinator.proofs.ExecutionLemmas.{reading_is_begun, stands_answered}
use Rattle.coordinator.proofs.execution.Execution.rewind.Goals as goal

pub returns-clause-stands : goal.returns-clause-stands
returns-clause-stands c = λ o s.
    stands_answered o c.args.self.now (record { log = c.rewind.new.self; job = c.in_ok-self.field-0; nexts = c.args.self.now.nexts }) s
    (reading_is_begun c.args.self.now c.args.i s.whole c.requires)
    c.in_ok-self.ensures.stands c.in_ok-self.ensures.last c.in_ok-self.ensures.whole

pub returns-clause-answers : goal.returns-clause-answers
returns-clause-answers c = λ whole none.
    let same : to_z w64 (of_z w64 c.args.label.value) ≡ c.args.label.value = search rules in
    rewound_with c.args.self.now c.rewind.new.self.reads c.args.i c.args.label (to_z w64 (of_z w64 c.args.label.value)) same (c.requires whole) c.in_ok-self.ensures.reads none

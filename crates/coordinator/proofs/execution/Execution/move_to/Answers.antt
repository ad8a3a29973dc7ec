-- The reads before the first whose value changes take their next labels, and it is answered anew.
use Rattle.std.proofs.Common.{◌∙◌, ◌++◌, ◌∷◌, [], take, None, sym, ap, arith}
use Rattle.coordinator.specs.Answers.{answers_with}
use Rattle.coordinator.proofs.MovingLemmas.{as_many, cut_moved, stands_unlabelled}
use Rattle.coordinator.proofs.execution.Execution.move_to.Goals as goal

pub rewind-requires : goal.rewind-requires
rewind-requires c = λ whole.
    let was = sym c.move_before.ensures.broken ∙ whole in
    omega (arith, as_many c.args.self.now c.move_before.new.self c.args.i (c.move_before.ensures.log was), c.requires.within)

pub returns-clause-stands : goal.returns-clause-stands
returns-clause-stands c = λ o s. c.in_ok-rewind.ensures.stands o (stands_unlabelled o c.move_before.new.self c.new.result (c.move_before.ensures.stands o s))

pub returns-clause-answers : goal.returns-clause-answers
returns-clause-answers c = λ whole.
    c.in_ok-rewind.ensures.answers (c.move_before.ensures.broken ∙ whole) c.new.ensures
    ∙ ap (λ ns. take c.args.i (answers_with c.move_before.new.self.log.reads ns) ++ record { label = c.next_label-next.result; next = None } ∷ []) c.new.ensures
    ∙ cut_moved c.args.self.now c.move_before.new.self c.args.i (c.move_before.ensures.log whole) c.next_label-next.result c.requires.within c.requires.other c.next_label-next.ensures

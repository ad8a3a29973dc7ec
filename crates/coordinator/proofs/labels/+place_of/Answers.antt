-- The place in the reads that are left is one less.
use Rattle.std.proofs.Common.{sym, ◌∙◌, Some, None}
use Rattle.coordinator.proofs.AnswersLemmas.{place_passed}
use Rattle.coordinator.proofs.labels.+place_of.Goals as goal

pub returns-in_err-place-clause-place : goal.returns-in_err-place-clause-place
returns-in_err-place-clause-place t c =
    c.from_residual-in_err-place.ensures
    ∙ sym (place_passed c.args.key c.args.reads.now c.in_ok-first.first.now c.in_ok-first.others.now None c.in_ok-first.ensures.cases.0
    (sym c.is_same_key.ensures ∙ c.if-is_same_key.false) (sym c.in_err-place.ensures.place))

pub returns-clause-place : goal.returns-clause-place
returns-clause-place t c =
    sym (place_passed c.args.key c.args.reads.now c.in_ok-first.first.now c.in_ok-first.others.now (Some c.in_ok-place.place) c.in_ok-first.ensures.cases.0
    (sym c.is_same_key.ensures ∙ c.if-is_same_key.false) (sym c.in_ok-place.ensures.place))

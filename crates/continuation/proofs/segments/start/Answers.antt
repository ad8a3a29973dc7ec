use Rattle.std.proofs.Common.{[], refl, sym, subst}
use Rattle.std.proofs.lemmas.Result.{IfOk-weaker}
use Rattle.flat_code.specs.Does.{Does}
use Rattle.continuation.specs.Place.{actions_of}
use Rattle.continuation.specs.Segment.{IsSegment}
use Rattle.continuation.proofs.Suffix.{is_first}
use Rattle.continuation.proofs.segments.start.Goals as goal

pub returns-clause-run : goal.returns-clause-run
returns-clause-run g c =
    let code = c.args.code.now in
    IfOk-weaker c.run_on.result _ _
    (λ seg h p is. is_first code p seg
    (subst (λ f. IsSegment code f (actions_of p) [] seg) c.in_ok-first_frame.ensures
    (h (actions_of p) [] (subst (λ f. Does code f (actions_of p)) (sym c.in_ok-first_frame.ensures) is.does) (record { same = λ k. refl }))))
    c.run_on.ensures.segment

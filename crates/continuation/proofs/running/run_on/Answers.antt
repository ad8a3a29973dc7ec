use Rattle.std.proofs.Common.{refl, sym, subst, arith}
use Rattle.continuation.specs.Segment.{IsSegment}
use Rattle.continuation.specs.Underway.{IsNext}
use Rattle.continuation.proofs.Stopping.{to_do, not_over}
use Rattle.continuation.proofs.running.run_on.Goals as goal

pub step-requires-clause-reached : goal.step-requires-clause-reached
step-requires-clause-reached g c κs within =
    to_do c.args.code.now c.args.at c.loop.counter c.loop.running.at _ c.requires.0 c.args.seen.now
    (c.loop.invariant.under c.requires.0 c.args.seen.now c.requires.1 (record { same = λ k. refl }))

pub returns-in_err-stop-clause-at_most : goal.returns-in_err-stop-clause-at_most
returns-in_err-stop-clause-at_most g c = λ a known does knows.
    let h = c.in_err-stop.ensures.at_most c.args.at c.loop.counter a known (c.loop.invariant.under a known does knows) in
    omega (arith, h, c.loop.invariant.counted)

pub returns-in-Some-clause-segment : goal.returns-in-Some-clause-segment
returns-in-Some-clause-segment g c = λ a known does knows.
    let code = c.args.code.now in
    let r = c.step.new.self in
    let next = c.in_ok-stop.ensures.next c.args.at c.loop.counter a known knows (c.loop.invariant.under a known does knows) in
    subst (IsSegment code c.args.at a known) (sym c.into_seg.ensures) (subst (IsNext code c.args.at c.loop.counter r a known) c.in-Some.is next)

pub returns-in-Some-clause-at_most : goal.returns-in-Some-clause-at_most
returns-in-Some-clause-at_most g c = λ a known does knows.
    let h = c.in_ok-stop.ensures.at_most c.args.at c.loop.counter a known (c.loop.invariant.under a known does knows) in
    omega (arith, h, c.loop.invariant.counted)

pub loop-preserved : goal.loop-preserved
loop-preserved g c = record {
  under = λ a known does knows.
      subst (IsNext c.args.code.now c.args.at c.loop.counter c.step.new.self a known) c.in_default.is
      (c.in_ok-stop.ensures.next c.args.at c.loop.counter a known knows (c.loop.invariant.under a known does knows));
  few = omega (arith, c.in_ok-stop.ensures.few, c.loop.invariant.few);
  counted = omega (arith, c.in_ok-stop.ensures.counted, c.loop.invariant.counted);
}

pub unreachable-requires : goal.unreachable-requires
unreachable-requires g c =
    not_over c.args.code.now c.args.at c.loop.counter c.loop.running.at _ c.requires.0 c.args.seen.now
    (c.loop.invariant.under c.requires.0 c.args.seen.now c.requires.1 (record { same = λ k. refl })) (omega arith)

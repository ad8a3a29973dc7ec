use Rattle.std.proofs.Common.{◌≡◌, ◌+◌, [], ◌∷◌, ◌++◌, reverse, Some, None, refl, sym, ap, ◌∙◌, w64, to_z, of_z, rules}
use Rattle.txn_lang.specs.Keys.{found}
use Rattle.std.specs.Option.{option_or}
use Rattle.flat_code.specs.Step.{gives}
use Rattle.flat_code.specs.Does.{fetched, answered_at}
use Rattle.continuation.specs.Underway.{did}
use Rattle.continuation.proofs.Stopping.{begun_now, went, wrote, printed, showed, asks, ends, asking, shown_now}
use Rattle.continuation.proofs.running.Running.step.Goals as goal

pub give_answer-requires : goal.give_answer-requires
give_answer-requires g c =
    let code = c.args.code.now in
    let f = c.args.self.now.at in
    asking code f 0 f c.step_op.new.at _ _ c.requires.reached.0 c.args.seen.now
    (begun_now code f c.requires.reached.0 c.args.seen.now c.requires.reached.1) refl c.in-Asks.key
    (sym c.in_ok-step_op.ensures.step ∙ ap (λ o. gives o c.step_op.new.at) c.in-Asks.is)

pub returns-in-Went-clause-next : goal.returns-in-Went-clause-next
returns-in-Went-clause-next g c = λ start i a known knows u.
    let d = did c.args.self.now in
    went c.args.code.now start i c.args.self.now.at c.step_op.new.at d (d.ran + c.ticks.result) a known u
    (ap (λ n. d.ran + n) c.ticks.ensures.ticks)
    (sym c.in_ok-step_op.ensures.step ∙ ap (λ o. gives o c.step_op.new.at) c.in-Went.is)

pub returns-in_ok-push-in-Wrote-clause-next : goal.returns-in_ok-push-in-Wrote-clause-next
returns-in_ok-push-in-Wrote-clause-next g c = λ start i a known knows u.
    let d = did c.args.self.now in
    wrote c.args.code.now start i c.args.self.now.at c.step_op.new.at d (d.ran + c.ticks.result) a known u
    (ap (λ n. d.ran + n) c.ticks.ensures.ticks) c.in-Wrote.write c.push.new.self c.in_ok-push-in-Wrote.ensures.ok
    (sym c.in_ok-step_op.ensures.step ∙ ap (λ o. gives o c.step_op.new.at) c.in-Wrote.is)

pub returns-in_ok-push-in-Printed-clause-next : goal.returns-in_ok-push-in-Printed-clause-next
returns-in_ok-push-in-Printed-clause-next g c = λ start i a known knows u.
    let d = did c.args.self.now in
    let same : to_z w64 (of_z w64 c.in-Printed.line) ≡ c.in-Printed.line = search rules in
    printed c.args.code.now start i c.args.self.now.at c.step_op.new.at d (d.ran + c.ticks.result) a known u
    (ap (λ n. d.ran + n) c.ticks.ensures.ticks) c.in-Printed.line c.push-in-Printed.new.self
    (c.in_ok-push-in-Printed.ensures.ok ∙ ap (λ x. d.printed ++ x ∷ []) same)
    (sym c.in_ok-step_op.ensures.step ∙ ap (λ o. gives o c.step_op.new.at) c.in-Printed.is)

pub returns-in-Some-clause-next : goal.returns-in-Some-clause-next
returns-in-Some-clause-next g c = λ start i a known knows u.
    let d = did c.args.self.now in
    let k = c.in-Asks.key in
    let seen = c.args.seen.now in
    let same : to_z w64 (of_z w64 c.in-Some.value) ≡ c.in-Some.value = search rules in
    let h = sym c.in-Some.is ∙ c.shown.ensures ∙ ap (λ w. option_or (found (reverse w) k) (found seen k)) c.as_slice.ensures in
    showed c.args.code.now start i c.args.self.now.at c.step_op.new.at d (d.ran + c.ticks.result) a known u
    (ap (λ n. d.ran + n) c.ticks.ensures.ticks) k c.in-Some.value c.give_answer.new.at
    (shown_now d.wrote seen known k (Some c.in-Some.value) knows h)
    (sym c.in_ok-step_op.ensures.step ∙ ap (λ o. gives o c.step_op.new.at) c.in-Asks.is)
    (c.give_answer.ensures ∙ ap (answered_at (fetched c.args.code.now c.step_op.new.at.pc) c.step_op.new.at) same)

pub returns-in-None-clause-next : goal.returns-in-None-clause-next
returns-in-None-clause-next g c = λ start i a known knows u.
    let d = did c.args.self.now in
    let k = c.in-Asks.key in
    let seen = c.args.seen.now in
    let h = sym c.in-None.is ∙ c.shown.ensures ∙ ap (λ w. option_or (found (reverse w) k) (found seen k)) c.as_slice.ensures in
    asks c.args.code.now start i c.args.self.now.at c.step_op.new.at d (d.ran + c.ticks.result) a known u
    (ap (λ n. d.ran + n) c.ticks.ensures.ticks) k (shown_now d.wrote seen known k None knows h)
    (sym c.in_ok-step_op.ensures.step ∙ ap (λ o. gives o c.step_op.new.at) c.in-Asks.is)

pub returns-in-Ends-clause-next : goal.returns-in-Ends-clause-next
returns-in-Ends-clause-next g c = λ start i a known knows u.
    let d = did c.args.self.now in
    ends c.args.code.now start i c.args.self.now.at c.step_op.new.at d (d.ran + c.ticks.result) a known u
    (ap (λ n. d.ran + n) c.ticks.ensures.ticks) c.in-Ends.ending
    (sym c.in_ok-step_op.ensures.step ∙ ap (λ o. gives o c.step_op.new.at) c.in-Ends.is)

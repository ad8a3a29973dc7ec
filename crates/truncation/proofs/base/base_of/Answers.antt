-- Each pass puts one answer more, and the three make the base.
use Rattle.std.proofs.Common.{[], ap, ◌∙◌}
use Rattle.protocol.specs.Warden.State.{FencedAnswer}
use Rattle.protocol.specs.Warden.Base.{put_entries, kept_entries, decided_entries}
use Rattle.truncation.proofs.BaseLemmas.{puts_step, base_made}
use Rattle.truncation.proofs.base.base_of.Goals as goal

pub loop-answer-preserved : goal.loop-answer-preserved
loop-answer-preserved c =
    puts_step (λ (a : FencedAnswer). a.base) [] c.args.answers.now c.loop-answer.answer-index c.answer-item.result c.loop-answer.base _
    c.loop-answer-test.true c.answer-item.is c.loop-answer.invariant
    (c.in_ok-put_all.ensures ∙ ap (put_entries c.loop-answer.base) (c.as_slice.ensures ∙ ap (λ (a : FencedAnswer). a.base) c.answer.view_is))

pub loop-answer-2-preserved : goal.loop-answer-2-preserved
loop-answer-2-preserved c =
    puts_step (λ (a : FencedAnswer). kept_entries c.args.w a.committed) c.loop-answer.base c.args.answers.now c.loop-answer-2.answer-index c.answer-item-in-loop-answer-2.result c.loop-answer-2.base _
    c.loop-answer-2-test.true c.answer-item-in-loop-answer-2.is c.loop-answer-2.invariant
    (c.in_ok-put_committed.ensures ∙ ap (λ l. put_entries c.loop-answer-2.base (kept_entries c.args.w l))
    (c.as_slice-in-loop-answer-2.ensures ∙ ap (λ (a : FencedAnswer). a.committed) c.answer-in-loop-answer-2.view_is))

pub loop-answer-3-preserved : goal.loop-answer-3-preserved
loop-answer-3-preserved c =
    puts_step (λ (a : FencedAnswer). decided_entries c.args.w c.args.rec.now.state a.voted) c.loop-answer-2.base c.args.answers.now c.loop-answer-3.answer-index c.answer-item-in-loop-answer-3.result c.loop-answer-3.base _
    c.loop-answer-3-test.true c.answer-item-in-loop-answer-3.is c.loop-answer-3.invariant
    (c.in_ok-put_decided.ensures ∙ ap (λ l. put_entries c.loop-answer-3.base (decided_entries c.args.w c.args.rec.now.state l))
    (c.as_slice-in-loop-answer-3.ensures ∙ ap (λ (a : FencedAnswer). a.voted) c.answer-in-loop-answer-3.view_is))

pub returns : goal.returns
returns c =
    c.into_list.ensures
    ∙ base_made c.args.w c.args.rec.now.state c.args.answers.now c.loop-answer.answer-index c.loop-answer-2.answer-index c.loop-answer-3.answer-index c.loop-answer.base c.loop-answer-2.base c.loop-answer-3.base
    c.loop-answer-test.false c.loop-answer-2-test.false c.loop-answer-3-test.false c.loop-answer.invariant c.loop-answer-2.invariant c.loop-answer-3.invariant

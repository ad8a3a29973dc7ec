-- What one answer more names is listed.
use Rattle.std.proofs.Common.{ap, ◌∙◌}
use Rattle.std.specs.Prelude.{filter, flat_map, not}
use Rattle.std.proofs.lemmas.List.{take_all}
use Rattle.protocol.specs.Warden.State.{FencedAnswer}
use Rattle.protocol.specs.Warden.Truncation.{named_committed}
use Rattle.truncation.proofs.NamedLemmas.{execs, answers_step}
use Rattle.truncation.proofs.truncation.to_recover.Goals as goal

pub loop-answer-preserved : goal.loop-answer-preserved
loop-answer-preserved c =
    answers_step (λ x. not (named_committed c.args.answers.now x)) c.loop-answer.named _ c.args.answers.now c.loop-answer.answer-index c.answer-item.result
    c.loop-answer-test.true c.answer-item.is c.loop-answer.invariant c.in_ok-add_named.ensures

pub returns : goal.returns
returns c =
    c.loop-answer.invariant
    ∙ ap (λ l. filter (λ x. not (named_committed c.args.answers.now x)) (flat_map (λ (a : FencedAnswer). execs a.voted) l))
    (take_all c.loop-answer.answer-index c.args.answers.now c.loop-answer-test.false)

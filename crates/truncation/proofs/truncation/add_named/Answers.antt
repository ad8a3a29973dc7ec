-- One execution more is listed, where no answer names it as committed.
use Rattle.std.proofs.Common.{◌++◌, ap, sym, ◌∙◌}
use Rattle.std.specs.Prelude.{filter, not}
use Rattle.std.proofs.lemmas.List.{append-nil, take_all}
use Rattle.protocol.specs.Lists.{one_when}
use Rattle.protocol.specs.Warden.State.{FencedAnswer}
use Rattle.protocol.specs.Warden.Truncation.{named_committed}
use Rattle.truncation.proofs.NamedLemmas.{execs, named_step}
use Rattle.truncation.proofs.truncation.add_named.Goals as goal
use Rattle.truncation.proofs.truncation.add_named.Goals.{then-not-is_named_committed+in_ok-push, else-not-is_named_committed}

pub loop-kept-init : goal.loop-kept-init
loop-kept-init c = sym (append-nil c.args.named.now)

pub loop-kept-preserved : goal.loop-kept-preserved
loop-kept-preserved c =
    let k = c.kept-item.result in
    named_step (λ x. not (named_committed c.args.answers.now x)) c.args.named.now c.loop-kept.named c.if-not-is_named_committed.named c.as_slice-kept-items.result.now c.loop-kept.kept-index k
    c.loop-kept-test.true c.kept-item.is c.loop-kept.invariant
    (elim c.if-not-is_named_committed.branch [
      | then-not-is_named_committed+in_ok-push w ↦ w.named-is
          ∙ (w.in_ok-push.ensures.ok ∙ ap (λ t. c.loop-kept.named ++ one_when (not t) k.exec)
          (sym (sym c.is_named_committed.ensures ∙ w.if-not-is_named_committed.true)))
      | else-not-is_named_committed w ↦ w.named-is
          ∙ (sym (append-nil c.loop-kept.named) ∙ ap (λ t. c.loop-kept.named ++ one_when (not t) k.exec)
          (sym (sym c.is_named_committed.ensures ∙ w.if-not-is_named_committed.false)))
    ])

pub returns : goal.returns
returns c =
    c.loop-kept.invariant
    ∙ ap (λ l. c.args.named.now ++ filter (λ x. not (named_committed c.args.answers.now x)) (execs l))
    (take_all c.loop-kept.kept-index c.as_slice-kept-items.result.now c.loop-kept-test.false
    ∙ (c.as_slice-kept-items.ensures ∙ ap (λ (a : FencedAnswer). a.voted) c.answer.view_is))

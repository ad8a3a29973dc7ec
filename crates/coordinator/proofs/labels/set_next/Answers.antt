-- A place without a next label changes no answer; the label is put at its place.
use Rattle.std.proofs.Common.{◌<◌, ap, ◌∙◌, length, arith, Some, List}
use Rattle.std.specs.Prelude.{get_or, set}
use Rattle.protocol.specs.Client.State.{Answer}
use Rattle.protocol.specs.Client.Following.{no_answer}
use Rattle.coordinator.specs.Answers.{answers_with}
use Rattle.coordinator.proofs.AnswersLemmas.{padded_with, next_set}
use Rattle.coordinator.proofs.labels.set_next.Goals as goal

pub loop-nexts-preserved : goal.loop-nexts-preserved
loop-nexts-preserved c = λ reads.
    ap (answers_with reads) c.in_ok-push.ensures.ok ∙ padded_with reads c.loop-nexts.nexts ∙ c.loop-nexts.invariant reads

pub returns : goal.returns
returns c = λ reads h.
    let listed : c.args.i < length c.loop-nexts.nexts = omega (arith, c.len.ensures) in
    ap (answers_with reads) c.set.ensures
    ∙ next_set reads c.loop-nexts.nexts c.args.i c.args.label h listed
    ∙ ap (λ (l : List Answer). set l c.args.i (record (get_or l c.args.i no_answer) { next = Some c.args.label })) (c.loop-nexts.invariant reads)

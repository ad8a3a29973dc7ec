use Rattle.std.proofs.Common.{◌≡◌, [], ◌∷◌, ◌++◌, ap, ◌∙◌, w64, to_z, of_z, ℤ}
use Rattle.std.proofs.lemmas.Result.{IfOk-weaker}
use Rattle.std.proofs.lemmas.Int.{to_z-of_z}
use Rattle.txn_lang.specs.Keys.{Entry, entry}
use Rattle.flat_code.specs.declared.frame.Frame.{Frame}
use Rattle.flat_code.specs.Does.{fetched, answered_at}
use Rattle.continuation.proofs.Resuming.{copied, Resumes, resumed}
use Rattle.continuation.proofs.segments.resume.Goals as goal

pub returns-clause-run : goal.returns-clause-run
returns-clause-run g c =
    let code = c.args.code.now in
    let cont = c.args.cont.now in
    let known = c.args.known.now in
    let f : Frame = record { pc = cont.pc; loops = c.in_ok-copy.field-0; locals = c.in_ok-copy-2.field-0 } in
    let same : to_z w64 (of_z w64 c.args.value) ≡ c.args.value = to_z-of_z w64 c.args.value c.ranges.value in
    let e : ℤ → Entry = λ x. entry c.asked-key.result x in
    let pushed : c.push.new.self ≡ e c.args.value ∷ [] =
    c.in_ok-push.ensures.ok ∙ ap (λ l. l ++ e (to_z w64 (of_z w64 c.args.value)) ∷ []) c.new-seen.ensures ∙ ap (λ x. e x ∷ []) same in
    let r : Resumes code cont known c.args.value f c.give_answer.new.at c.asked-key.result c.as_slice.result.now = record {
      place = copied cont c.in_ok-copy.field-0 c.in_ok-copy-2.field-0 c.in_ok-copy.ensures c.in_ok-copy-2.ensures;
      asks = c.asked-key.ensures;
      goes = c.give_answer.ensures ∙ ap (answered_at (fetched code cont.pc) f) same;
      sees = c.as_slice.ensures ∙ c.in_ok-extend_from_slice.ensures.ok ∙ ap (λ l. l ++ known) pushed;
    } in
    IfOk-weaker c.run_on.result _ _
    (λ seg h q s. resumed code cont known c.args.value f c.give_answer.new.at c.asked-key.result c.as_slice.result.now r q s seg h)
    c.run_on.ensures.segment

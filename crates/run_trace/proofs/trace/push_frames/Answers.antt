use Rattle.std.proofs.Common.{◌++◌, take, sym, ◌∙◌, ap}
use Rattle.std.specs.Prelude.{flat_map}
use Rattle.std.proofs.lemmas.List.{append_assoc}
use Rattle.wire.specs.Wire.{frame}
use Rattle.run_trace.specs.Frames.{frame_at}
use Rattle.run_trace.proofs.FrameLemmas.{one_more_frame}
use Rattle.run_trace.proofs.trace.push_frames.Goals as goal

pub loop-number-preserved : goal.loop-number-preserved
loop-number-preserved c =
    let mail = c.args.mail.now in
    let i = c.loop-number.number in
    c.in_ok-push_frame.ensures
    ∙ ap (λ x. x ++ frame_at mail i) c.loop-number.invariant
    ∙ append_assoc c.args.out.now (flat_map frame (take i mail)) (frame_at mail i)
    ∙ ap (λ t. c.args.out.now ++ t) (sym (one_more_frame mail i))

-- What is kept is the frame of what it opens to.
use Rattle.std.proofs.Common.{Some, sym, ap, subst, ◌∙◌}
use Rattle.std.specs.Prelude.{slice_get}
use Rattle.std.specs.Option.{option_map}
use Rattle.std.proofs.lemmas.Option.{get_or_from_slice_get}
use Rattle.wire.specs.Wire.{frame}
use Rattle.net_core.specs.Mail.{IsFrame}
use Rattle.net_core.proofs.Opening.{opened_at}
use Rattle.net_core.proofs.mail.Mail.frame.Goals as goal

pub returns-in-Some : goal.returns-in-Some
returns-in-Some c =
    let frames = c.self.inside.frames in
    let bytes = c.in-Some.frame.now in
    let here = get_or_from_slice_get frames c.args.i bytes bytes (sym c.in-Some.ensures.value) in
    let is_frame : IsFrame bytes = subst IsFrame here (c.self.invariant c.args.i bytes c.in-Some.ensures.within) in
    let kept = ap (option_map frame) (opened_at frames c.args.i bytes c.in-Some.ensures.value) in
    ap (λ t. Some t) (c.as_slice.ensures ∙ sym is_frame.same) ∙ sym kept ∙ ap (λ sent. option_map frame (slice_get sent c.args.i)) c.self.view_is

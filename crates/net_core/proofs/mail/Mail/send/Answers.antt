-- What is kept is a frame, and opens to what was sent.
use Rattle.std.proofs.Common.{List, ◌∷◌, [], ◌++◌, sym, ap, subst, ◌∙◌}
use Rattle.std.proofs.lemmas.List.Elements.{All-push}
use Rattle.net_core.specs.Mail.{IsFrame}
use Rattle.net_core.proofs.Opening.{frame_is_frame, opened_push}
use Rattle.net_core.proofs.mail.Mail.send.Goals as goal

pub invariant_of-self-2 : goal.invariant_of-self-2
invariant_of-self-2 c =
    let m = c.args.envelope.now in
    let is_frame : IsFrame c.in_ok-frame.frame = subst IsFrame (sym c.in_ok-frame.ensures.ok) (frame_is_frame m c.requires c.in_ok-frame.ensures.in_range) in
    rw c.in_ok-push.ensures.ok (All-push IsFrame c.self.inside.frames c.in_ok-frame.frame c.self.invariant is_frame)

pub returns-clause-ok : goal.returns-clause-ok
returns-clause-ok c =
    let m = c.args.envelope.now in
    rw (c.in_ok-push.ensures.ok, c.in_ok-frame.ensures.ok) (opened_push c.self.inside.frames m c.requires c.in_ok-frame.ensures.in_range
    ∙ ap (λ (sent : List _). sent ++ m ∷ []) c.self.view_is)

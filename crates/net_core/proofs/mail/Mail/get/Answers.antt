-- What is read is what the bytes open to.
use Rattle.std.proofs.Common.{ap, subst, ◌∙◌}
use Rattle.std.specs.Prelude.{slice_get}
use Rattle.wire.specs.Wire.{BeginsWith}
use Rattle.net_core.proofs.Opening.{read_at}
use Rattle.net_core.proofs.mail.Mail.get.Goals as goal

pub returns-in-Ok : goal.returns-in-Ok
returns-in-Ok c =
    let frames = c.self.inside.frames in
    let bytes = c.in-Some.frame.now in
    let found : BeginsWith bytes c.in-Ok.envelope c.in-Ok.field-0-1 =
    subst (λ t. BeginsWith t c.in-Ok.envelope c.in-Ok.field-0-1) c.as_slice.ensures c.in-Ok.ensures.found in
    read_at frames c.args.i bytes c.in-Ok.envelope c.in-Ok.field-0-1 c.in-Some.ensures.value found ∙ ap (λ sent. slice_get sent c.args.i) c.self.view_is

use Rattle.std.proofs.Common.{◌≡◌, ◌∙◌, ap, subst}
use Rattle.flat_code.specs.Operation.{Flat}
use Rattle.flat_code.specs.Jumps.{IsFlat}
use Rattle.flat_code.proofs.Places.{held_op, valid_op}
use Rattle.flat_code.proofs.code.Code.op_at.Goals as goal

pub returns-clause-valid : goal.returns-clause-valid
returns-clause-valid c =
    let code = c.args.self.now in
    let f = c.args.at.now in
    let same : record { operations = c.behind-self.inside.ops; locals = c.behind-self.inside.locals } ≡ code =
    c.behind-self.view_is ∙ c.deref.ensures ∙ c.self.view_is in
    let ops = c.as_slice.ensures ∙ ap (λ (x : Flat). x.operations) same in
    valid_op code f c.index-as_slice-at.result (subst IsFlat same c.behind-self.invariant) c.requires
    (held_op code c.as_slice.result.now f c.index-as_slice-at.result ops c.requires c.index-as_slice-at.is)

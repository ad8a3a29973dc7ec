use Rattle.std.proofs.Common.{◌∙◌, ap, sym, subst, length, map}
use Rattle.std.proofs.lemmas.Result.{IfOk-weaker}
use Rattle.txn_lang.specs.Tree.{commands}
use Rattle.txn_lang.specs.Limits.{IsWithin}
use Rattle.flat_code.specs.Flat.{flat}
use Rattle.flat_code.specs.Operation.{Flat, operation}
use Rattle.flat_code.proofs.Whole.{with_finish, is_flat, is_code_of}
use Rattle.flat_code.proofs.flattening.flatten.Goals as goal

pub new-requires : goal.new-requires
new-requires c =
    let p = c.args.p.now in
    let e = with_finish c.in_ok-ops.ops c.push.new.self (commands p.body)
    (c.in_ok-ops.ensures ∙ ap (λ b. flat (commands b)) c.body.ensures.value) c.in_ok-push.ensures.ok in
    is_flat c.push.new.self (length c.names.result.now) (commands p.body)
    (subst (λ n. IsWithin (length n) (commands p.body)) (sym c.names.ensures.value) c.names.ensures.kept.within) e

pub returns : goal.returns
returns c =
    let p = c.args.p.now in
    let e = with_finish c.in_ok-ops.ops c.push.new.self (commands p.body)
    (c.in_ok-ops.ensures ∙ ap (λ b. flat (commands b)) c.body.ensures.value) c.in_ok-push.ensures.ok in
    IfOk-weaker c.new.result _ _
    (λ code is. is_code_of code p c.names.ensures.kept
    (ap (λ (x : Flat). map operation x.operations) is ∙ e)
    (ap (λ (x : Flat). x.locals) is ∙ ap length c.names.ensures.value))
    c.new.ensures

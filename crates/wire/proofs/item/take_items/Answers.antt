-- One more item, and an item at fault.
use Rattle.std.proofs.Common.{◌≡◌, ap, subst, ◌∙◌, None, Ok}
use Rattle.std.specs.Option.{option_copied}
use Rattle.std.proofs.lemmas.Result.{err_from_is_err_and}
use Rattle.wire.specs.Outcome.{Fails}
use Rattle.wire.specs.Field.{items_at}
use Rattle.wire.proofs.Items.{last_of, goes_on, ends}
use Rattle.wire.proofs.item.take_items.Goals as goal

pub returns-in_err-item : goal.returns-in_err-item
returns-in_err-item g c =
    let judged = g.T.Item.judged in
    let last : option_copied c.last.result ≡ last_of c.loop.items = c.last.ensures.value ∙ ap last_of c.as_slice.ensures in
    let p = err_from_is_err_and c.from_residual.result c.from_residual.ensures.1 in
    let fails : Fails c.in_err-item.field-0.0 (judged (last_of c.loop.items) c.loop.rest.now) =
    subst (λ o. Fails c.in_err-item.field-0.0 (judged o c.loop.rest.now)) last c.in_err-item.ensures in
    let total = items_at judged None c.args.count c.args.bytes.now in
    rw (p.1, p.2) (ends judged c.in_err-item.field-0.0 c.loop.items c.args.count c.loop.counter c.loop.rest.now total c.loop-test.true fails c.loop.invariant)

pub loop-preserved : goal.loop-preserved
loop-preserved g c =
    let judged = g.T.Item.judged in
    let last : option_copied c.last.result ≡ last_of c.loop.items = c.last.ensures.value ∙ ap last_of c.as_slice.ensures in
    let taken : judged (last_of c.loop.items) c.loop.rest.now ≡ Ok (c.in_ok-item.item, c.in_ok-item.after.now) =
    subst (λ o. judged o c.loop.rest.now ≡ Ok (c.in_ok-item.item, c.in_ok-item.after.now)) last c.in_ok-item.ensures in
    let total = items_at judged None c.args.count c.args.bytes.now in
    rw c.in_ok-push.ensures.ok
    (goes_on judged c.loop.items c.args.count c.loop.counter c.loop.rest.now c.in_ok-item.item c.in_ok-item.after.now total c.loop-test.true taken c.loop.invariant)

use Rattle.std.proofs.Common.{◌∙◌, ap, sym, subst}
use Rattle.std.specs.Bool.{then_some}
use Rattle.mv_index.specs.WriteIndex.{held_at, IsLastBelow}
use Rattle.mv_index.proofs.PlaceOrder.{none_below, last_below}
use Rattle.mv_index.proofs.write_index.WriteIndex.last_below.Goals as goal

pub returns-in-None : goal.returns-in-None
returns-in-None c = none_below c.args.key c.args.ver c.args.self.now.held c.range.result (c.range.ensures.in_range tt) c.in-None.ensures.steps.0

pub returns-in-Some : goal.returns-in-Some
returns-in-Some c =
    let p = c.in-Some.place.now in
    let a = c.in-Some.held.now in
    subst (IsLastBelow c.args.ver (held_at c.args.self.now c.args.key))
    (sym (c.then_some.ensures ∙ ap (λ t. then_some t a) c.is_same_key.ensures))
    (last_below c.args.key c.args.ver c.args.self.now.held c.range.result c.next_back.new.self p a (c.range.ensures.in_range tt) c.in-Some.ensures.steps)

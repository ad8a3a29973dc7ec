use Rattle.std.proofs.Common.{sym, ◌∙◌, subst}
use Rattle.mv_index.proofs.ReadsLeft.{left_other, left_here, IsLeft}
use Rattle.mv_index.proofs.ReadsFrom.{left_all}
use Rattle.mv_index.proofs.read_index.ReadIndex.is_read_past.Goals as goal

pub loop-place-init : goal.loop-place-init
loop-place-init c =
    let m = c.args.self.now.reads in
    let range = c.range-place-items.ensures in (
      tt,
      tt,
      subst (IsLeft m c.args.key c.args.ver) (sym c.into_iter-place-iterator.ensures.into_iter_gives)
          (left_all m c.args.key c.args.ver c.range-place-items.result range.ordered (range.between tt) (range.in_range tt)),
    )

pub returns-then-not-is_of : goal.returns-then-not-is_of
returns-then-not-is_of c =
    left_other c.args.self.now.reads c.args.key c.args.ver (c.in-Some.place.now, c.in-Some.least.now) c.next.new.self
    (subst (IsLeft c.args.self.now.reads c.args.key c.args.ver) c.in-Some.ensures.steps c.loop-place.invariant.2)
    (sym c.is_of.ensures ∙ c.if-not-is_of.true)

pub returns-then-is_past : goal.returns-then-is_past
returns-then-is_past c =
    left_here c.args.self.now.reads c.args.key c.args.ver (c.in-Some.place.now, c.in-Some.least.now) c.next.new.self
    (subst (IsLeft c.args.self.now.reads c.args.key c.args.ver) c.in-Some.ensures.steps c.loop-place.invariant.2)
    (sym c.is_of.ensures ∙ c.if-not-is_of.false) (sym c.is_past.ensures ∙ c.if-is_past.true)

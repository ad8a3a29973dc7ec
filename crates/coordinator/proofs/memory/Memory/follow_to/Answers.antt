-- The same value changes the label alone; another one rewinds.
use Rattle.std.proofs.Common.{◌∙◌, ap, sym}
use Rattle.std.specs.Ordering.{int_eq}
use Rattle.std.proofs.lemmas.Bool.Decides.{Decides-int_eq}
use Rattle.protocol.specs.declared.Held.{Held}
use Rattle.protocol.specs.Client.Following.{answer_at}
use Rattle.coordinator.proofs.FollowingLemmas.{follows_other, follows_same}
use Rattle.coordinator.proofs.memory.Memory.follow_to.Goals as goal

pub returns-then-is_same_value : goal.returns-then-is_same_value
returns-then-is_same_value c = λ g k pending given s runs is.
    let same = ap (λ (h : Held). int_eq h.value c.args.new.value) (sym is) ∙ sym c.is_same_value.ensures ∙ c.if-is_same_value.true in
    follows_same g k c.follow.new.self c.args.i c.args.new c.in_ok-out.out same
    (c.in_ok-out.ensures g k pending given s runs ((Decides-int_eq (answer_at k c.args.i).label.value c.args.new.value).0 same))

pub returns : goal.returns
returns c = λ g k pending given s runs is.
    follows_other g k c.rewind.new.self c.args.i c.args.new c.in_ok-out-2.out
    (ap (λ (h : Held). int_eq h.value c.args.new.value) (sym is) ∙ sym c.is_same_value.ensures ∙ c.if-is_same_value.false)
    (c.in_ok-out-2.ensures g k pending given s runs)

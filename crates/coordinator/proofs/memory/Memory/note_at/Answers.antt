-- The Note does what its effect says.
use Rattle.std.proofs.Common.{None, ◌∙◌, ap, sym, subst}
use Rattle.protocol.specs.declared.Held.{Held}
use Rattle.protocol.specs.Client.Following.{effect, prepare_if_idle, surely, with_answer}
use Rattle.protocol.specs.Client.Following.Effect.{Nothing, Sure, Follow}
use Rattle.coordinator.specs.Following.{effect_of}
use Rattle.coordinator.specs.Memory.{Takes}
use Rattle.coordinator.proofs.FollowingLemmas.{does_nothing, does_sure, label_is, note_does}
use Rattle.coordinator.proofs.memory.Memory.note_at.Goals as goal

pub returns-in-Nothing : goal.returns-in-Nothing
returns-in-Nothing c = λ g k pending given s runs.
    let same = label_is g k c.args.self.now c.args.i s ∙ sym c.label-old.ensures in
    note_does g k c.args.self.now c.args.i c.args.new c.args.gone Nothing c.new.result
    (ap (λ (h : Held). effect h c.args.new c.args.gone) same ∙ sym c.effect_on.ensures ∙ ap effect_of c.in-Nothing.is)
    (does_nothing g k c.args.self.now c.args.i c.args.new c.new.result s c.new.ensures)

pub returns-in_ok-out-in-Sure : goal.returns-in_ok-out-in-Sure
returns-in_ok-out-in-Sure c = λ g k pending given s runs.
    let same = label_is g k c.args.self.now c.args.i s ∙ sym c.label-old.ensures in
    note_does g k c.follow.new.self c.args.i c.args.new c.args.gone Sure c.in_ok-out-in-Sure.out
    (ap (λ (h : Held). effect h c.args.new c.args.gone) same ∙ sym c.effect_on.ensures ∙ ap effect_of c.in-Sure.is)
    (does_sure g k c.follow.new.self c.args.i c.args.new c.in_ok-out-in-Sure.out
    (subst (λ (h : Held). Takes g (prepare_if_idle g.rules (with_answer k c.args.i (record { label = h; next = None }))) c.follow.new.self c.in_ok-out-in-Sure.out)
    (c.surely.ensures ∙ ap surely (sym same))
    (c.in_ok-out-in-Sure.ensures g k pending given s runs (ap (λ (h : Held). h.value) same ∙ sym (ap (λ (h : Held). h.value) c.surely.ensures)))))

pub returns-in_ok-out-in-Follow : goal.returns-in_ok-out-in-Follow
returns-in_ok-out-in-Follow c = λ g k pending given s runs.
    let same = label_is g k c.args.self.now c.args.i s ∙ sym c.label-old.ensures in
    note_does g k c.follow_to.new.self c.args.i c.args.new c.args.gone Follow c.in_ok-out-in-Follow.out
    (ap (λ (h : Held). effect h c.args.new c.args.gone) same ∙ sym c.effect_on.ensures ∙ ap effect_of c.in-Follow.is)
    (c.in_ok-out-in-Follow.ensures g k pending given s runs (sym same))

-- The Note does what its effect on the next label says.
use Rattle.std.proofs.Common.{◌∙◌, ap, sym}
use Rattle.protocol.specs.Client.Following.{effect}
use Rattle.protocol.specs.Client.Following.Effect.{Nothing, Sure, Follow}
use Rattle.coordinator.specs.Following.{effect_of}
use Rattle.coordinator.proofs.NextLabelLemmas.{next_label_is, prepared_does}
use Rattle.coordinator.proofs.memory.Memory.prepared_at.Goals as goal

pub returns-in-Nothing : goal.returns-in-Nothing
returns-in-Nothing c = λ g k content votes proposal accepts s is.
    let same = next_label_is g k c.args.self.now c.args.i s ∙ sym c.next_label-old.ensures in
    prepared_does g k c.args.self.now c.args.i c.args.new c.args.gone Nothing
    (ap (λ h. effect h c.args.new c.args.gone) same ∙ sym c.effect_on.ensures ∙ ap effect_of c.in-Nothing.is) s

pub returns-in_ok-put_sure-in-Sure : goal.returns-in_ok-put_sure-in-Sure
returns-in_ok-put_sure-in-Sure c = λ g k content votes proposal accepts s is.
    let same = next_label_is g k c.args.self.now c.args.i s ∙ sym c.next_label-old.ensures in
    prepared_does g k c.put_sure.new.self c.args.i c.args.new c.args.gone Sure
    (ap (λ h. effect h c.args.new c.args.gone) same ∙ sym c.effect_on.ensures ∙ ap effect_of c.in-Sure.is)
    (c.in_ok-put_sure-in-Sure.ensures g k content votes proposal accepts s is)

pub returns-in_ok-put_next-in-Follow : goal.returns-in_ok-put_next-in-Follow
returns-in_ok-put_next-in-Follow c = λ g k content votes proposal accepts s is.
    let same = next_label_is g k c.args.self.now c.args.i s ∙ sym c.next_label-old.ensures in
    prepared_does g k c.put_next.new.self c.args.i c.args.new c.args.gone Follow
    (ap (λ h. effect h c.args.new c.args.gone) same ∙ sym c.effect_on.ensures ∙ ap effect_of c.in-Follow.is)
    (c.in_ok-put_next-in-Follow.ensures g k content votes proposal accepts s is)

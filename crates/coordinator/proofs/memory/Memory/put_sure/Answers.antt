-- A next label turns sure.
use Rattle.std.proofs.Common.{◌∙◌, sym, subst}
use Rattle.protocol.specs.Client.Following.{answer_at, follow_prepared}
use Rattle.protocol.specs.Client.Following.Effect.{Follow}
use Rattle.coordinator.specs.Memory.{StandsFor}
use Rattle.coordinator.proofs.NextLabelLemmas.{next_is, stays_unsure, turns_sure}
use Rattle.coordinator.proofs.memory.Memory.put_sure.Goals as goal

pub returns-in_default : goal.returns-in_default
returns-in_default c = λ g k content votes proposal accepts s is.
    stays_unsure g k c.args.self.now c.args.i c.args.new s (next_is g k c.args.self.now c.args.i s ∙ sym c.next.ensures ∙ c.in_default.is)

pub returns : goal.returns
returns c = λ g k content votes proposal accepts s is.
    turns_sure g k c.put_next.new.self c.args.i c.args.new c.in-Some.next (next_is g k c.args.self.now c.args.i s ∙ sym c.next.ensures ∙ c.in-Some.is)
    (subst (λ h. StandsFor g (follow_prepared k c.args.i (answer_at k c.args.i) h Follow) c.put_next.new.self) c.surely.ensures
    (c.in_ok-put_next.ensures g k content votes proposal accepts s is))

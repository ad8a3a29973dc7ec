-- A Note is about an answered read, or about none.
use Rattle.std.proofs.Common.{Some, None, ◌∙◌, sym}
use Rattle.coordinator.proofs.NextLabelLemmas.{notes_prepared}
use Rattle.coordinator.proofs.memory.Memory.note_prepared.Goals as goal

pub returns-in_default : goal.returns-in_default
returns-in_default c = λ g k content votes proposal accepts s is.
    notes_prepared g k c.args.self.now c.args.self.now c.args.key c.args.new c.args.gone None c.new.result s (sym c.place.ensures.place ∙ c.in_default.is) c.new.ensures s

pub returns : goal.returns
returns c = λ g k content votes proposal accepts s is.
    notes_prepared g k c.args.self.now c.prepared_at.new.self c.args.key c.args.new c.args.gone (Some c.in-Some.i) c.new-2.result s
    (sym c.place.ensures.place ∙ c.in-Some.is) c.new-2.ensures (c.in_ok-prepared_at.ensures g k content votes proposal accepts s is)

-- A warden's decision on the current execution.
use Rattle.std.proofs.Common.{◌∙◌, ap, sym, subst}
use Rattle.protocol.specs.Client.Step.{told_running}
use Rattle.coordinator.specs.Memory.{Takes}
use Rattle.coordinator.specs.declared.memory.Memory.{Memory}
use Rattle.coordinator.specs.declared.memory.Stage.TheVariants as stage
use Rattle.coordinator.proofs.EnvelopeLemmas.{takes_not, takes_when, tells}
use Rattle.coordinator.proofs.memory.Memory.told_running.Goals as goal

pub returns-then-not-is_told : goal.returns-then-not-is_told
returns-then-not-is_told c = λ g k s way.
    takes_not g k c.args.self.now _ _ c.new.result s (sym (c.is_told.ensures g k s) ∙ c.if-not-is_told.true) c.new.ensures

pub returns : goal.returns
returns c = λ g k s way.
    takes_when g k c.end.new.self _ _ c.new-2.result (sym (c.is_told.ensures g k s) ∙ c.if-not-is_told.false)
    (subst (λ (m : Memory). Takes g (told_running k c.args.choice) m c.new-2.result)
    (ap (λ f. record c.args.self.now { course = record c.args.self.now.course { fate = f }; stage = stage.Between }) (sym c.fate_of.ensures) ∙ sym c.end.ensures)
    (tells g k c.args.self.now c.args.choice c.new-2.result s way c.new-2.ensures))

-- It can hurry while prepared, until it proposed.
use Rattle.std.proofs.Common.{◌∙◌}
use Rattle.coordinator.proofs.MemoryLemmas.{hurry_prepared, hurry_else, turned}
use Rattle.coordinator.proofs.coordinator.Coordinator.can_hurry.Goals as goal

pub returns-in-Prepared : goal.returns-in-Prepared
returns-in-Prepared c = λ g k s. turned _ _ c.is_none.ensures ∙ hurry_prepared g k c.args.self.now.memory c.in-Prepared.ballot s.memory c.in-Prepared.is

pub returns-in_default : goal.returns-in_default
returns-in_default c = λ g k s. hurry_else g k c.args.self.now.memory s.memory c.in_default.not-Prepared

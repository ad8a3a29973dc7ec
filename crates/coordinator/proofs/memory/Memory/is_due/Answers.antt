-- Where the segment wrote nothing, the first one of a later execution counts.
use Rattle.std.proofs.Common.{◌∙◌, sym, ap}
use Rattle.std.specs.Prelude.{◌||◌, ◌&&◌, not, nat_lt}
use Rattle.coordinator.proofs.memory.Memory.is_due.Goals as goal

pub returns-else-wrote : goal.returns-else-wrote
returns-else-wrote c = λ g k pending given s runs.
    c.is_rerun.ensures g k pending given s runs ∙ ap (λ b. b || (not given && nat_lt 0 k.exec.eid)) (sym c.if-wrote.false)

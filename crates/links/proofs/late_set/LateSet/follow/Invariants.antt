use Rattle.std.proofs.Common.{length, ◌-◌}
use Rattle.links.specs.LateSet.{HasFront}
use Rattle.links.proofs.late_set.LateSet.follow.Given as goal

abbrev pub invariant-loop-self : goal.invariant-loop-self
invariant-loop-self l = HasFront l.late l.self

abbrev pub decreases-loop-self : goal.decreases-loop-self
decreases-loop-self l = length l.late - l.self.count

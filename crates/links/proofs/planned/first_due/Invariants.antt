use Rattle.std.proofs.Common.{◌≡◌, ◌+◌, length}
use Rattle.net_core.specs.LinkRules.{due_from}
use Rattle.links.proofs.planned.first_due.Given as goal

abbrev pub invariant-loop-first : goal.invariant-loop-first
invariant-loop-first l = (due_from l.now l.used l.at l.rest ≡ due_from l.now l.used 0 l.items) × (l.at + length l.rest ≡ length l.items)

abbrev pub decreases-loop-first : goal.decreases-loop-first
decreases-loop-first l = length l.rest

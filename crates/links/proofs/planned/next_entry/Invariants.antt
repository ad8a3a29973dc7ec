use Rattle.std.proofs.Common.{◌≡◌, length}
use Rattle.net_core.specs.LinkRules.{entry_at}
use Rattle.links.proofs.planned.next_entry.Given as goal

abbrev pub invariant-loop-first : goal.invariant-loop-first
invariant-loop-first l = entry_at l.left l.rest ≡ entry_at l.place l.items

abbrev pub decreases-loop-first : goal.decreases-loop-first
decreases-loop-first l = length l.rest

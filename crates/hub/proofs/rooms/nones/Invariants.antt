use Rattle.std.proofs.Common.{◌≡◌, replicate, None}
use Rattle.hub.proofs.rooms.nones.Given as goal

abbrev pub invariant-loop : goal.invariant-loop
invariant-loop g l = l.all.items ≡ replicate l.counter None

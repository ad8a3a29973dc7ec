-- The transactions of so many clients were counted.
use Rattle.std.proofs.Common.{◌≡◌, map, length, take}
use Rattle.world.proofs.setup.counts.Given as goal

abbrev pub invariant-loop-client : goal.invariant-loop-client
invariant-loop-client l = l.all ≡ map length (take l.client-index l.client-items)

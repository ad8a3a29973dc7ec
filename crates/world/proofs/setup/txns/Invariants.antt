-- The transactions of so many clients were taken.
use Rattle.std.proofs.Common.{◌≡◌, map, take}
use Rattle.world.specs.Setup.{txn_of}
use Rattle.world.proofs.setup.txns.Given as goal

abbrev pub invariant-loop-client : goal.invariant-loop-client
invariant-loop-client l = l.all ≡ map (map txn_of) (take l.client-index l.client-items)

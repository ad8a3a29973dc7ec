-- So many transactions were taken.
use Rattle.std.proofs.Common.{◌≡◌, map, take}
use Rattle.world.specs.Setup.{txn_of}
use Rattle.world.proofs.setup.own_txns.Given as goal

abbrev pub invariant-loop-txn : goal.invariant-loop-txn
invariant-loop-txn l = l.own ≡ map txn_of (take l.txn-index l.txns)

-- The transactions so far were added, each later than the one before it.
use Rattle.std.proofs.Common.{◌≡◌, ◌+◌, ◌≤◌, ◌++◌, drop}
use Rattle.script.specs.declared.limits.TheConstants.{LATEST_START}
use Rattle.serial_ref.specs.FirstTries.{client_tries}
use Rattle.serial_ref.proofs.tries.add_tries.Given as goal

abbrev pub invariant-loop-txn : goal.invariant-loop-txn
invariant-loop-txn l = record {
  number : l.number ≡ l.txn-index;
  ts : l.ts ≤ LATEST_START + l.txn-index;
  items : l.items ++ client_tries l.client (l.number + 1) l.ts (drop l.txn-index l.txns) ≡ l.initial.items ++ client_tries l.client 1 0 l.txns;
}

-- The clients so far were added.
use Rattle.std.proofs.Common.{◌≡◌, ◌+◌, ◌++◌, drop}
use Rattle.serial_ref.specs.FirstTries.{all_tries}
use Rattle.serial_ref.proofs.tries.all_tries.Given as goal

abbrev pub invariant-loop-txns : goal.invariant-loop-txns
invariant-loop-txns l = record {
  client : l.client ≡ l.txns-index;
  items : l.items ++ all_tries (l.client + 1) (drop l.txns-index l.txns-items) ≡ all_tries 1 l.txns-items;
}

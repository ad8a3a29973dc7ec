use Rattle.std.proofs.Common.{◌≡◌, reverse, length}
use Rattle.txn_lang.specs.Keys.{found}
use Rattle.serial_runs.proofs.known.Known.find.Given as goal

abbrev pub invariant-entries : goal.invariant-entries
invariant-entries l = found (reverse l.rest) l.key ≡ found l.self l.key

abbrev pub decreases-entries : goal.decreases-entries
decreases-entries l = length l.rest

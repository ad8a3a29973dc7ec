-- The keys of the writes so far were added.
use Rattle.std.proofs.Common.{List, take}
use Rattle.txn_lang.specs.Keys.{Entry, after_writes}
use Rattle.serial_rows.specs.Keys.{AreKeys}
use Rattle.serial_rows.proofs.keys.add_keys.Given as goal

abbrev pub invariant-loop-write : goal.invariant-loop-write
invariant-loop-write l = (m : List Entry) → AreKeys m l.initial.keys → AreKeys (after_writes (take l.write-index l.writes) m) l.keys

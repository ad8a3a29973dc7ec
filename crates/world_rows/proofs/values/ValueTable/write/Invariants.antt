use Rattle.std.proofs.Common.{List, take}
use Rattle.std.specs.Prelude.{map}
use Rattle.protocol_plans.specs.SerialOutcome.{entry_written}
use Rattle.txn_lang.specs.Keys.{Entry, after_writes}
use Rattle.world_rows.specs.Values.{HasValues}
use Rattle.world_rows.proofs.values.ValueTable.write.Given as goal

abbrev pub invariant-loop-write : goal.invariant-loop-write
invariant-loop-write l = (m : List Entry) → HasValues m l.initial.self → HasValues (after_writes (map entry_written (take l.write-index l.writes)) m) l.self

-- A map with the keys that it names.
use Rattle.std.specs.Prelude.{List}
use Rattle.txn_lang.specs.Keys.{Entry, HoldTheSame}
use Rattle.serial_rows.specs.Keys.{AreKeys}
use Rattle.serial_rows.specs.declared.table.Table.{Table}

-- the table holds what the map holds, and has the keys that the map names
pub record IsTable (m : List Entry) (t : Table) : Type 0 where
  pub same : HoldTheSame t.cells m
  pub keys : AreKeys m t.keys

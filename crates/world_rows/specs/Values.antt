-- The values of keys as a function.
use Rattle.std.specs.Prelude.{◌≡◌, ℤ, List, Option}
use Rattle.std.specs.BTreeMap.{get}
use Rattle.protocol.specs.Words.{Key}
use Rattle.report.specs.declared.rows.ValueRow.{ValueRow}
use Rattle.txn_lang.specs.Keys.{Entry, found, held}
use Rattle.world_rows.specs.Orders.{key_cmp}
use Rattle.world_rows.specs.declared.values.ValueTable.{ValueTable}

-- the value of k
abbrev pub value_at : ValueTable → Key → Option ℤ
value_at t k = get key_cmp t.values k

-- a key with what a map holds there
abbrev pub value_row : List Entry → Key → ValueRow
value_row m k = record { key = k; value = held m k }

-- the table has what is found in a map
pub record HasValues (m : List Entry) (t : ValueTable) : Type 0 where
  pub each : (k : Key) → value_at t k ≡ found m k

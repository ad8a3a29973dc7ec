-- The keys that a map names.
use Rattle.std.specs.Prelude.{◌≡◌, List, is_some}
use Rattle.std.specs.BTreeSet.{BTreeSet, contains}
use Rattle.morty_base.specs.declared.names.Key.{Key}
use Rattle.txn_lang.specs.Keys.{Entry, found}
use Rattle.serial_rows.specs.Values.{key_cmp}

-- the set has just the keys that a map names
pub record AreKeys (m : List Entry) (keys : BTreeSet Key) : Type 0 where
  pub each : (k : Key) → contains key_cmp keys k ≡ is_some (found m k)

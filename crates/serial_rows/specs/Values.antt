-- The values of a map by key.
use Rattle.std.specs.Prelude.{◌≡◌, List, map, is_some}
use Rattle.std.specs.declared.cmp.Ordering.{Ordering}
use Rattle.std.specs.Ordering.{nat_cmp, int_cmp, ordering_then}
use Rattle.std.specs.List.{All, list_any}
use Rattle.std.specs.List.Sorted.{IsStrictlySortedBy}
use Rattle.morty_base.specs.declared.names.Key.{Key}
use Rattle.morty_base.specs.Names.{same_key}
use Rattle.txn_lang.specs.Keys.{Entry, found, held}
use Rattle.report.specs.declared.rows.ValueRow.{ValueRow}

-- keys by table, and then by index
abbrev pub key_cmp : Key → Key → Ordering
key_cmp k l = ordering_then (nat_cmp k.table l.table) (int_cmp k.index l.index)

abbrev pub keys_of : List ValueRow → List Key
keys_of rows = map (λ r. r.key) rows

-- the rows have just the keys that the map names, rising, each with what the map holds there
pub record AreValues (m : List Entry) (rows : List ValueRow) : Type 0 where
  pub rising : IsStrictlySortedBy key_cmp (keys_of rows)
  pub named : (k : Key) → list_any (same_key k) (keys_of rows) ≡ is_some (found m k)
  pub held : All (λ r. r.value ≡ held m r.key) rows

-- A map of the store as a list of entries, in the order of their keys.
use Rattle.std.specs.Prelude.{List, map, ℤ}
use Rattle.morty_base.specs.declared.names.Key.{Key}
use Rattle.txn_lang.specs.Keys.{Entry, entry}

abbrev pub entries_of : List (Key × ℤ) → List Entry
entries_of pairs = map (λ p. entry p.0 p.1) pairs

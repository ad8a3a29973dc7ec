-- Lists of keys.
use Rattle.std.specs.Prelude.{◌≡◌, Bool, false, ◌||◌, List, Option, Some, None}
use Rattle.std.specs.List.{list_any}
use Rattle.protocol.specs.Words.{Key, key_before, same_key}
use Rattle.protocol.specs.Lists.{IsRisingBy}
use Rattle.mv_index.specs.declared.key_list.KeyList.{KeyList}

-- keys in rising order, each once
abbrev pub AreRising : List Key → Type 0
AreRising ks = IsRisingBy key_before ks

-- it is this key
abbrev pub is_key : Option Key → Key → Bool
is_key None k = false
is_key (Some l) k = same_key k l

-- the keys of the new list are those of the old one and those that pass the test
pub record Lists (test : Key → Bool) (old new : KeyList) : Type 0 where
  pub rising : AreRising new.keys.items
  pub has : (k : Key) → list_any (same_key k) new.keys.items ≡ (test k || list_any (same_key k) old.keys.items)

-- Where a write stands in a base.
use Rattle.std.specs.Prelude.{◌≡◌, ℕ, true, false, List, Option, Some, None}
use Rattle.std.specs.Bool.{then_some}
use Rattle.std.specs.List.Sorted.{IsPartitionPoint}
use Rattle.protocol.specs.Words.{Exec, Key, Write, BaseEntry, key_before, same_key}
use Rattle.protocol.specs.Lists.{IsRisingBy}

-- each entry is of a later key than those before it
abbrev pub AreRising : List BaseEntry → Type 0
AreRising entries = IsRisingBy (λ a b. key_before a.key b.key) entries

-- before the place stand the entries of keys before k, and no others
abbrev pub IsPlace : Key → List BaseEntry → ℕ → Type 0
IsPlace k entries i = IsPartitionPoint (λ e. key_before e.key k ≡ true) (λ e. key_before e.key k ≡ false) entries i

-- the entry, if it is of key k
abbrev pub entry_with : Key → Option BaseEntry → Option BaseEntry
entry_with k None = None
entry_with k (Some b) = then_some (same_key k b.key) b

-- the entry of the i-th write of x
abbrev pub entry_of : Exec → ℕ → Write → BaseEntry
entry_of x i w = record { key = w.key; wid = record { ver = x.ver; eid = x.eid; seq = i }; value = w.value }

-- What a base holds of a key.
use Rattle.std.specs.Prelude.{Bool, true, ◌&&◌, List, Option, Some, None}
use Rattle.std.specs.Bool.{then_some}
use Rattle.protocol.specs.Words.{Key, Version, BaseEntry, Read, before, key_before, same_key}
use Rattle.protocol.specs.declared.Held.{Held}
use Rattle.protocol.specs.Lists.{IsRisingBy}

-- entries rise by key
abbrev pub EntriesRise : List BaseEntry → Type 0
EntriesRise bs = IsRisingBy (λ (a b : BaseEntry). key_before a.key b.key) bs

-- the entry, where there is one and it is of this key
abbrev pub entry_with : Key → Option BaseEntry → Option BaseEntry
entry_with k None = None
entry_with k (Some b) = then_some (same_key k b.key) b

-- an entry as a write that is held
abbrev pub held_of : BaseEntry → Held
held_of b = record { wid = b.wid; value = b.value; sure = true }

-- a content at version v that read this missed the entry
abbrev pub misses_entry : Version → Read → BaseEntry → Bool
misses_entry v r b = same_key r.key b.key && (before b.wid.ver v && before r.wid.ver b.wid.ver)

-- What a handler needs of an envelope.
use Rattle.std.specs.Prelude.{◌≤◌, length, Option, Some, None}
use Rattle.protocol.specs.Words.{Content, BaseEntry, Body, Puts, Prepare, Finalize, Decide, Drops, key_before}
use Rattle.protocol.specs.Lists.{IsRisingBy}

abbrev pub HasFewWrites : Option Content → Type 0
HasFewWrites None = Unit {0}
HasFewWrites (Some c) = length c.writes ≤ 4294967295

-- each write has a name, and a base rises by key
abbrev pub IsWithinLimits : Body → Type 0
IsWithinLimits (Puts x ws) = length ws ≤ 4294967295
IsWithinLimits (Prepare x c) = length c.writes ≤ 4294967295
IsWithinLimits (Finalize x v d c) = HasFewWrites c
IsWithinLimits (Decide x d c) = HasFewWrites c
IsWithinLimits (Drops w b) = IsRisingBy (λ (e f : BaseEntry). key_before e.key f.key) b
IsWithinLimits _ = Unit {0}

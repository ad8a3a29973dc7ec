-- The executions of one client in order.
use Rattle.std.specs.Prelude.{◌≡◌, ◌<◌, ◌⊎◌}
use Rattle.protocol.specs.Words.{Exec}
use Rattle.protocol.specs.Client.State.{ClientState}
use Rattle.protocol.specs.Client.State.Phase.{Between}

-- of one client's executions, an earlier one
abbrev pub IsEarlier : Exec → Exec → Type 0
IsEarlier x y = (x.ver.ts < y.ver.ts) ⊎ ((x.ver.ts ≡ y.ver.ts) × (x.eid < y.eid))

-- the client is done with x
abbrev pub Over : Exec → ClientState → Type 0
Over x s = IsEarlier x s.exec ⊎ ((x ≡ s.exec) × (s.phase ≡ Between))

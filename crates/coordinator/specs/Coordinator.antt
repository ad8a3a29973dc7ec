-- When a coordinator stands for a client of the definitions, and what its calls do.
use Rattle.std.specs.Prelude.{◌≡◌, Bool, false, cond, ◌==◌, List, ◌++◌, Option, Some, None, flat_map}
use Rattle.protocol.specs.Words.{Client, Envelope}
use Rattle.protocol.specs.Client.State.{ClientState, Turn}
use Rattle.protocol.specs.World.Events.{to_all}
use Rattle.coordinator.specs.Memory as memory
use Rattle.coordinator.specs.Memory.{Given}
use Rattle.coordinator.specs.declared.memory.Attempt.{Attempt}
use Rattle.coordinator.specs.declared.coordinator.Coordinator.{Coordinator}

-- a call was refused: each later one that can be is
abbrev pub is_broken : Coordinator → Bool
is_broken s = s.broken

-- a coordinator that was refused no memory stands for a client of the definitions
pub record StandsFor (g : Given) (c : ClientState) (s : Coordinator) : Type 0 where
  pub memory : memory.StandsFor g c s.memory
  pub whole : s.broken ≡ false

-- the last attempt begun
abbrev pub last_attempt : ClientState → Option Attempt
last_attempt c = cond (c.begun == 0) None (Some (record { txn = c.begun; attempt = c.try; exec = c.exec }))

-- a turn is taken: its state is kept, and what it sends stands behind what was there before
pub record Does (g : Given) (t : Turn) (s : Coordinator) (before after : List Envelope) : Type 0 where
  pub state : StandsFor g t.state s
  pub sent : after ≡ before ++ flat_map (to_all g.rules.replicas (Client g.rules.client)) t.sent

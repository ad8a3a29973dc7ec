-- The kinds of step that an event can make, with their equations.
use Rattle.std.specs.Prelude.{◌≡◌, ℕ, true, ◌++◌, Some, flat_map, length}
use Rattle.protocol.specs.Words.{NodeId, Client, Replica, Warden, Envelope}
use Rattle.protocol.specs.Lists.{IsIn}
use Rattle.protocol.specs.Replica.Taken.{after_taking}
use Rattle.protocol.specs.Replica.Says.{says}
use Rattle.protocol.specs.Client.State.{Turn}
use Rattle.protocol.specs.Client.Step.{Input, client_step}
use Rattle.protocol.specs.Client.Step.Input.{Comes}
use Rattle.protocol.specs.Warden.State.{WardenTurn}
use Rattle.protocol.specs.Warden.Step.{WardenInput, warden_step}
use Rattle.protocol.specs.Warden.Step.WardenInput.{Hears}
use Rattle.protocol.specs.World.State.{Plan, World, in_range, rules, warden_rules}
use Rattle.protocol.specs.World.Events.{at, to_all, parcel}

-- an input that is an envelope was sent, and to this node
abbrev pub Came : World → NodeId → Input → Type 0
Came w node (Comes from b) = (m : Envelope) × IsIn m w.mail × (m.to ≡ node) × (m.from ≡ from) × (m.body ≡ b)
Came w node _ = Unit {0}

-- the same of a warden
abbrev pub Heard : World → NodeId → WardenInput → Type 0
Heard w node (Hears from b) = (m : Envelope) × IsIn m w.mail × (m.to ≡ node) × (m.from ≡ from) × (m.body ≡ b)
Heard w node _ = Unit {0}

-- no node changed and nothing was sent
pub record Stayed (w w' : World) : Type 0 where
  pub client : w'.client ≡ w.client
  pub replica : w'.replica ≡ w.replica
  pub warden : w'.warden ≡ w.warden
  pub mail : w'.mail ≡ w.mail

-- a client took a turn
pub record ByClient (p : Plan) (w w' : World) : Type 0 where
  pub c : ℕ
  pub real : in_range c (length p.clients) ≡ true
  pub input : Input
  pub came : Came w (Client c) input
  pub turn : Turn
  pub step : client_step (rules p c) (w.client c) input ≡ Some turn
  pub client : w'.client ≡ at c turn.state w.client
  pub replica : w'.replica ≡ w.replica
  pub warden : w'.warden ≡ w.warden
  pub mail : w'.mail ≡ w.mail ++ flat_map (to_all p.replicas (Client c)) turn.sent

-- a replica handled an envelope that was sent to it
pub record ByReplica (p : Plan) (w w' : World) : Type 0 where
  pub r : ℕ
  pub real : in_range r p.replicas ≡ true
  pub m : Envelope
  pub in_mail : IsIn m w.mail
  pub addressed : m.to ≡ Replica r
  pub client : w'.client ≡ w.client
  pub replica : w'.replica ≡ at r (after_taking (w.replica r) m) w.replica
  pub warden : w'.warden ≡ w.warden
  pub mail : w'.mail ≡ w.mail ++ says p.firsts r (w.replica r) m

-- a warden took a turn
pub record ByWarden (p : Plan) (w w' : World) : Type 0 where
  pub k : ℕ
  pub real : in_range k p.wardens ≡ true
  pub input : WardenInput
  pub came : Heard w (Warden k) input
  pub turn : WardenTurn
  pub step : warden_step (warden_rules p k) (w.warden k) input ≡ Some turn
  pub client : w'.client ≡ w.client
  pub replica : w'.replica ≡ w.replica
  pub warden : w'.warden ≡ at k turn.state w.warden
  pub mail : w'.mail ≡ w.mail ++ flat_map (parcel p.replicas (Warden k)) turn.sent

-- what one event can do, whatever it delivers, stops or counts besides
pub data Happens (p : Plan) (w w' : World) : Type 0 where
  Stays : Stayed w w' → Happens p w w'
  Client_moves : ByClient p w w' → Happens p w w'
  Replica_moves : ByReplica p w w' → Happens p w w'
  Warden_moves : ByWarden p w w' → Happens p w w'

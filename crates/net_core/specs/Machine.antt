-- A machine that replays events, as its histories tell it.
use Rattle.std.specs.Prelude.{ℕ, Bool, List, Option}
use Rattle.std.specs.List.{list_any}
use Rattle.morty_base.specs.declared.names.NodeId.{NodeId}
use Rattle.morty_base.specs.declared.names.Exec.{Exec}
use Rattle.morty_base.specs.Names.{same_node}
use Rattle.msg.specs.declared.Event.{Event}

-- the events so far, the newest first: the list before an event is then the tail
abbrev pub History : Type 0
History = List Event

-- what an event does: it moves the machine; it is refused, since the mail is full; or its node cannot do it now
pub data Effect : Type 0 where
  Moves : Effect
  Refused : Effect
  Not_enabled : Effect

-- what a node's link is shown before it picks
pub record Menu : Type 0 where
  pub now : ℕ  -- how many events moved the machine
  pub go : Bool  -- Go is enabled
  pub hurry : Bool  -- Hurry is enabled
  pub fresh : List ℕ  -- the node's undelivered envelopes, rising
  pub old : List ℕ  -- its delivered ones, in the order of first delivery
  pub stuck : Option Exec  -- an execution that waits for a warden

-- its nodes in the order of their slots, and, after each history, what an event does, which nodes are live, which have
-- a pending job, and what a node's link is shown
pub record Machine : Type 0 where
  pub nodes : List NodeId
  pub effect : History → Event → Effect
  pub live : History → NodeId → Bool
  pub pending : History → NodeId → Bool
  pub menu : History → NodeId → Menu

-- the machine has the node
abbrev pub has_node : Machine → NodeId → Bool
has_node m n = list_any (same_node n) m.nodes

-- The nodes of a world by their slots.
use Rattle.std.specs.Prelude.{ℕ, ◌+◌, ◌-◌, Bool, cond, List, ◌++◌, map, Option, Some, None}
use Rattle.protocol.specs.Words.{NodeId, Client, Replica, Warden}
use Rattle.protocol.specs.Lists.{upto}
use Rattle.protocol.specs.World.State.{in_range}

-- how many nodes of each kind there are
pub record Counts : Type 0 where
  pub clients : ℕ
  pub replicas : ℕ
  pub wardens : ℕ

-- the clients, then the replicas, then the wardens, each kind by number: a node's slot is its place here
abbrev pub nodes_of : Counts → List NodeId
nodes_of v = map Client (upto v.clients) ++ (map Replica (upto v.replicas) ++ map Warden (upto v.wardens))

abbrev pub count_of : Counts → ℕ
count_of v = v.clients + (v.replicas + v.wardens)

-- the node is one of them
abbrev pub has_node : Counts → NodeId → Bool
has_node v (Client c) = in_range c v.clients
has_node v (Replica r) = in_range r v.replicas
has_node v (Warden w) = in_range w v.wardens

-- the slot of a node that is one of them
abbrev pub slot_of : Counts → NodeId → Option ℕ
slot_of v (Client c) = cond (in_range c v.clients) (Some (c - 1)) None
slot_of v (Replica r) = cond (in_range r v.replicas) (Some (v.clients + (r - 1))) None
slot_of v (Warden w) = cond (in_range w v.wardens) (Some (v.clients + (v.replicas + (w - 1)))) None

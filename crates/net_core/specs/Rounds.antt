-- Histories that were made in rounds: the nodes take turns in the order of their slots.
use Rattle.std.specs.Prelude.{◌≡◌, ℕ, Bool, true, false, cond, not, ◌&&◌, ◌||◌, nat_le, List, [], ◌∷◌, ◌++◌, Option, Some, None, find}
use Rattle.morty_base.specs.declared.names.NodeId.{NodeId}
use Rattle.morty_base.specs.declared.names.NodeId.TheVariants.{Client}
use Rattle.morty_base.specs.Names.{same_node}
use Rattle.msg.specs.declared.Event.{Event}
use Rattle.msg.specs.declared.Event.TheVariants.{Picked, Ran}
use Rattle.msg.specs.Events.{node_of}
use Rattle.net_core.specs.Machine.{History, Machine}
use Rattle.net_core.specs.Marks.{is_full, rests, turns_made}

-- the nodes after n
abbrev pub nodes_after : NodeId → List NodeId → List NodeId
nodes_after n [] = []
nodes_after n (m ∷ ms) = cond (same_node n m) ms (nodes_after n ms)

-- the nodes up to n
abbrev pub nodes_upto : NodeId → List NodeId → List NodeId
nodes_upto n [] = []
nodes_upto n (m ∷ ms) = cond (same_node n m) (m ∷ []) (m ∷ nodes_upto n ms)

-- the nodes in the order in which they are looked at: from the one after the last event's on, and round again
abbrev pub turn_order : List NodeId → History → List NodeId
turn_order nodes [] = nodes
turn_order nodes (e ∷ h) = nodes_after (node_of e) nodes ++ nodes_upto (node_of e) nodes

-- the node that is due: the first that does not rest
abbrev pub due : Machine → History → Option NodeId
due m h = find (λ n. not (rests m h n)) (turn_order m.nodes h)

-- no node is due, or the one that is has no pending job and has made its turns
abbrev pub is_used_up : Machine → ℕ → History → Option NodeId → Bool
is_used_up m turns h None = true
is_used_up m turns h (Some n) = not (m.pending h n) && nat_le turns (turns_made n h)

-- a run in rounds is over there
abbrev pub is_over : Machine → ℕ → History → Bool
is_over m turns h = is_full m h || is_used_up m turns h (due m h)

-- an event of the node that is due: its pending job is run, or it picks where it has none
abbrev pub IsTurnOf : Machine → History → Event → Type 0
IsTurnOf m h (Picked n pick) = (due m h ≡ Some n) × (m.pending h n ≡ false)
IsTurnOf m h (Ran c) = (due m h ≡ Some (Client c)) × (m.pending h (Client c) ≡ true)

-- each event was of the node that was due, and none came after the end
abbrev pub InTurns : Machine → ℕ → History → Type 0
InTurns m turns [] = Unit {0}
InTurns m turns (e ∷ h) = (is_over m turns h ≡ false) × IsTurnOf m h e × InTurns m turns h

-- a run in rounds, from its first event to its end
pub record InRounds (m : Machine) (turns : ℕ) (h : History) : Type 0 where
  pub turn_by_turn : InTurns m turns h
  pub over : is_over m turns h ≡ true

-- A run in rounds, looked at between two visits.
use Rattle.std.specs.Prelude.{◌≡◌, ℕ, suc, ◌⊎◌, true, false, not, List, ◌++◌, take, drop, find, Option, None, is_some}
use Rattle.morty_base.specs.declared.names.NodeId.{NodeId}
use Rattle.net_core.specs.Machine.{History, Machine}
use Rattle.net_core.specs.Marks.{is_full, rests}
use Rattle.net_core.specs.Rounds.{due, InTurns, InRounds}
use Rattle.hub.specs.Views.{HubView, history, told_end}

-- the nodes from a slot on, and round again
abbrev pub nodes_from : ℕ → List NodeId → List NodeId
nodes_from slot nodes = drop slot nodes ++ take slot nodes

-- the first of them that does not rest
abbrev pub first_from : Machine → ℕ → History → Option NodeId
first_from m slot h = find (λ n. not (rests m h n)) (nodes_from slot m.nodes)

-- the run goes on, each event so far was of the node that was due, and the node that is due is the first from the slot on
-- that does not rest
pub record IsAtSlot {J : Type 0} (m : Machine) (turns slot : ℕ) (v : HubView J) : Type 0 where
  pub no_end : v.ended ≡ None
  pub not_full : is_full m (history v) ≡ false
  pub in_turns : InTurns m turns (history v)
  pub due_node : due m (history v) ≡ first_from m slot (history v)

-- a run in rounds has ended, or the next slot is to be visited
abbrev pub KeepsTurns : {J : Type 0} → Machine → ℕ → ℕ → HubView J → Type 0
KeepsTurns m turns slot v = ((is_some v.ended ≡ true) × InRounds m turns (history v)) ⊎ IsAtSlot m turns (suc slot) v

-- the same at the end of a round
abbrev pub HasTurns : {J : Type 0} → Machine → ℕ → HubView J → Type 0
HasTurns m turns v = ((is_some (told_end v) ≡ true) × InRounds m turns (history v)) ⊎ IsAtSlot m turns 0 v

-- Picks, turns and marks of the nodes in a history, and how a run ends.
use Rattle.std.specs.Prelude.{ℕ, Bool, true, false, cond, not, ◌&&◌, ◌||◌, nat_le, List, [], ◌∷◌, count_by, Option, Some, None}
use Rattle.std.specs.List.{list_any, list_all}
use Rattle.morty_base.specs.declared.names.NodeId.{NodeId}
use Rattle.morty_base.specs.declared.names.Ended.{Ended}
use Rattle.morty_base.specs.declared.names.Ended.TheVariants.{Quiet, Spent, Full}
use Rattle.morty_base.specs.Names.{same_node}
use Rattle.msg.specs.declared.Pick.{Pick}
use Rattle.msg.specs.declared.Pick.TheVariants.{Idle}
use Rattle.msg.specs.declared.Event.{Event}
use Rattle.msg.specs.declared.Event.TheVariants.{Picked, Ran}
use Rattle.net_core.specs.Machine.{History, Machine, Effect, Moves, Refused, Not_enabled}

-- the picks of a node, the newest first
abbrev pub picks : NodeId → History → List Pick
picks n [] = []
picks n (Picked m pick ∷ h) = cond (same_node n m) (pick ∷ picks n h) (picks n h)
picks n (Ran c ∷ h) = picks n h

-- a pick other than Idle is a turn, enabled or not
abbrev pub is_turn : Pick → Bool
is_turn Idle = false
is_turn _ = true

-- how many turns a node made
abbrev pub turns_made : NodeId → History → ℕ
turns_made n h = count_by is_turn (picks n h)

-- what an event leaves of a node's mark: what moves the machine clears it, a pick of the node that is not enabled sets
-- it, and one that is refused takes it away
abbrev pub mark_after : NodeId → Event → Effect → Bool → Bool
mark_after n e Moves marked = false
mark_after n (Picked m pick) Not_enabled marked = same_node n m || marked
mark_after n (Picked m pick) Refused marked = not (same_node n m) && marked
mark_after n (Ran c) _ marked = marked

-- a node is marked where its last pick moved nothing, was not refused, and stands after all that moved the machine
abbrev pub is_marked : Machine → History → NodeId → Bool
is_marked m [] n = false
is_marked m (e ∷ h) n = mark_after n e (m.effect h e) (is_marked m h n)

abbrev pub is_refused : Effect → Bool
is_refused Refused = true
is_refused _ = false

-- the last event was refused
abbrev pub is_full : Machine → History → Bool
is_full m [] = false
is_full m (e ∷ h) = is_refused (m.effect h e)

-- a node rests where it is stopped, or is marked and has no pending job
abbrev pub rests : Machine → History → NodeId → Bool
rests m h n = not (m.live h n) || (is_marked m h n && not (m.pending h n))

-- each live node is marked, and none has a pending job
abbrev pub is_quiet : Machine → History → Bool
is_quiet m h = list_all (rests m h) m.nodes

-- a live node that is not marked has made its turns
abbrev pub is_out_of_turns : Machine → ℕ → History → NodeId → Bool
is_out_of_turns m turns h n = m.live h n && (not (is_marked m h n) && nat_le turns (turns_made n h))

-- how a run with so many turns for each node has ended, if it has: the first case that holds
abbrev pub end_of : Machine → ℕ → History → Option Ended
end_of m turns h =
    cond (is_full m h) (Some Full)
    (cond (is_quiet m h) (Some Quiet)
    (cond (list_any (is_out_of_turns m turns h) m.nodes) (Some Spent)
    None))

-- How much of a run is left to do, and what a visit of a slot makes of it.
use Rattle.std.specs.Prelude.{◌≡◌, ℕ, suc, ◌+◌, ◌-◌, ◌*◌, ◌<◌, ◌⊎◌, Bool, true, false, not, List, [], ◌∷◌, length, replicate, Option, Some, None, is_some}
use Rattle.std.specs.List.{slice_get}
use Rattle.morty_base.specs.declared.names.NodeId.{NodeId}
use Rattle.net_core.specs.Machine.{History, Machine}
use Rattle.net_core.specs.Marks.{turns_made, is_marked, is_quiet, rests}
use Rattle.hub.specs.Starts.{Start}
use Rattle.hub.specs.Views.{HubView, history, told_end}

-- the sum of what f counts of each node
abbrev pub total : (NodeId → ℕ) → List NodeId → ℕ
total f [] = 0
total f (n ∷ ns) = f n + total f ns

abbrev pub one_if : Bool → ℕ
one_if true = 1
one_if false = 0

-- how many turns a node has left; whether it has a pending job; whether it has no idle mark
abbrev pub turns_left : ℕ → History → NodeId → ℕ
turns_left turns h n = turns - turns_made n h

abbrev pub pending_one : Machine → History → NodeId → ℕ
pending_one m h n = one_if (m.pending h n)

abbrev pub unmarked_one : Machine → History → NodeId → ℕ
unmarked_one m h n = one_if (not (is_marked m h n))

-- how much is left to do, of which turns count most, then jobs, then marks, where the last two count less than k
abbrev pub rank_of : ℕ → ℕ → ℕ → ℕ → ℕ
rank_of k turns jobs marks = (turns * k + jobs) * k + marks

unfoldable pub rank : Machine → ℕ → History → ℕ
rank m turns h =
    rank_of (suc (length m.nodes)) (total (turns_left turns h) m.nodes) (total (pending_one m h) m.nodes) (total (unmarked_one m h) m.nodes)

-- no job counts as handed out
abbrev pub IsRecalled : {J : Type 0} → Machine → HubView J → Type 0
IsRecalled {J} m v = v.handed ≡ replicate (length m.nodes) None

-- the node of the slot rested, and nothing changed; but some node does not rest
pub record HasRested {J : Type 0} (m : Machine) (slot : ℕ) (old new : HubView J) : Type 0 where
  pub same : history new ≡ history old
  pub not_quiet : is_quiet m (history old) ≡ false
  pub rests : (n : NodeId) → slice_get m.nodes slot ≡ Some n → rests m (history old) n ≡ true

-- less is left to do
abbrev pub Fell : {J : Type 0} → Machine → ℕ → HubView J → HubView J → Type 0
Fell m turns old new = rank m turns (history new) < rank m turns (history old)

-- after a visit of a slot the run has ended, or it goes on with less left to do or with a node that rested
abbrev pub IsVisited : {J : Type 0} → Machine → ℕ → ℕ → HubView J → HubView J → Type 0
IsVisited m turns slot old new = (is_some new.ended ≡ true) ⊎ (IsRecalled m new × (Fell m turns old new ⊎ HasRested m slot old new))

-- each slot below k was visited: less is left to do, or the node of each rested, and nothing changed
pub record HaveRested {J : Type 0} (m : Machine) (k : ℕ) (old new : HubView J) : Type 0 where
  pub same : history new ≡ history old
  pub not_quiet : 0 < k → is_quiet m (history old) ≡ false
  pub rests : (j : ℕ) (n : NodeId) → j < k → slice_get m.nodes j ≡ Some n → rests m (history old) n ≡ true

abbrev pub IsRoundSoFar : {J : Type 0} → Machine → ℕ → ℕ → HubView J → HubView J → Type 0
IsRoundSoFar m turns k old new = IsRecalled m new × (Fell m turns old new ⊎ HaveRested m k old new)

-- after a round the run has ended, or it goes on with less left to do
abbrev pub IsRound : {J : Type 0} → Machine → ℕ → HubView J → HubView J → Type 0
IsRound m turns old new = (is_some (told_end new) ≡ true) ⊎ (IsRecalled m new × Fell m turns old new)

-- of a run with a start, what is left to do
abbrev pub rank_at : {O J : Type 0} → Option (Start O) → (O → Machine) → HubView J → ℕ
rank_at None rules v = 0
rank_at (Some s) rules v = rank (rules s.origin) s.turns (history v)

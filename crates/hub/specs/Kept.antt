-- What a hub keeps beside its run. All of it is fixed by the journal.
use Rattle.std.specs.Prelude.{◌≡◌, ℕ, ◌+◌, ◌<◌, ◌^◌, Bool, false, List, [], ◌∷◌, map, Option, Some, None}
use Rattle.morty_base.specs.declared.names.Ended.{Ended}
use Rattle.msg.specs.declared.Event.TheVariants.{Picked, Ran}
use Rattle.net_core.specs.Machine.{History, Machine, Effect, Moves}
use Rattle.net_core.specs.Marks.{is_marked, turns_made, is_full, end_of}
use Rattle.net_core.specs.Ruled.{LinkState}
use Rattle.hub.specs.Starts.{Start, IsRun}

-- how many events are picks
abbrev pub picks_in : History → ℕ
picks_in [] = 0
picks_in (Picked n p ∷ h) = picks_in h + 1
picks_in (Ran c ∷ h) = picks_in h

abbrev pub one_if_moved : Effect → ℕ
one_if_moved Moves = 1
one_if_moved _ = 0

-- how many are segments that were used
abbrev pub rans_in : Machine → History → ℕ
rans_in m [] = 0
rans_in m (Picked n p ∷ h) = rans_in m h
rans_in m (Ran c ∷ h) = rans_in m h + one_if_moved (m.effect h (Ran c))

-- what the journal alone fixes, also where memory ran out: how many segments were used, and the end, if it was noted
pub record IsNoted (m : Machine) (turns : ℕ) (h : History) (used : ℕ) (ended : Option Ended) : Type 0 where
  pub used_are : used ≡ rans_in m h
  pub ends : (e : Ended) → ended ≡ Some e → end_of m turns h ≡ Some e

-- of each slot's node, whether it is marked and how many turns it made; and that the run is not full before it ended
pub record IsKept {O : Type 0} (rules : O → Machine) (stands : O → History → Type 0) (s : Start O) (h : History) (now : List LinkState)
    (turns : ℕ) (marks : List Bool) (made : List ℕ) (ended : Option Ended) : Type 0 where
  pub run : IsRun rules stands s h now
  pub turns_are : turns ≡ s.turns
  pub marks_are : marks ≡ map (is_marked (rules s.origin) h) (rules s.origin).nodes
  pub made_are : made ≡ map (λ n. turns_made n h) (rules s.origin).nodes
  pub not_full : ended ≡ None → is_full (rules s.origin) h ≡ false

-- one of each for each node
pub record HasRooms (nodes links handed marks made : ℕ) : Type 0 where
  pub few : links < 2 ^ 32
  pub nodes_are : nodes ≡ links
  pub handed_are : handed ≡ links
  pub marks_fit : marks ≡ links
  pub made_fit : made ≡ links

-- What callers see of a hub.
use Rattle.std.specs.Prelude.{◌≡◌, ℕ, zero, suc, Bool, false, cond, List, [], ◌∷◌, replicate, Option, Some, None, is_some, reverse}
use Rattle.std.specs.List.{slice_get}
use Rattle.morty_base.specs.declared.names.NodeId.{NodeId}
use Rattle.morty_base.specs.declared.names.Ended.{Ended}
use Rattle.msg.specs.declared.Event.{Event}
use Rattle.net_core.specs.Machine.{History, Machine}
use Rattle.hub.specs.Starts.{Start}

-- the number of nodes; the journal in order; the pending job of each slot; the job that each slot was handed last, since the
-- last recall and the last segment of it that was used; how the run ended; whether nobody is to go on; and whether memory ran
-- out in the middle of a call, so that the machine stands for nothing
pub record HubView (J : Type 0) : Type 0 where
  pub nodes : ℕ
  pub journal : List Event
  pub jobs : List (Option J)
  pub handed : List (Option J)
  pub ended : Option Ended
  pub spoiled : Bool
  pub broken : Bool

-- a hub whose run has not begun, with the jobs that are pending at first
abbrev pub first_view : {J : Type 0} → ℕ → List (Option J) → HubView J
first_view nodes jobs =
    record { nodes = nodes; journal = []; jobs = jobs; handed = replicate nodes None; ended = None; spoiled = false; broken = false }

-- the events so far, the newest first
abbrev pub history : {J : Type 0} → HubView J → History
history v = reverse v.journal

-- the nodes of a run with a start, in the order of their slots
abbrev pub nodes_of : {O : Type 0} → Option (Start O) → (O → Machine) → List NodeId
nodes_of None rules = []
nodes_of (Some s) rules = (rules s.origin).nodes

-- the pending job of a slot
abbrev pub job_in : {J : Type 0} → List (Option J) → ℕ → Option J
job_in [] slot = None
job_in (j ∷ jobs) zero = j
job_in (j ∷ jobs) (suc slot) = job_in jobs slot

-- the slots with a pending job are those of the nodes that have one by the rules
abbrev pub HasPending : {J : Type 0} → Machine → HubView J → Type 0
HasPending m v = (slot : ℕ) (n : NodeId) → slice_get m.nodes slot ≡ Some n → m.pending (history v) n ≡ is_some (job_in v.jobs slot)

-- how the run ended, as far as the hub says it
abbrev pub told_end : {J : Type 0} → HubView J → Option Ended
told_end v = cond v.spoiled None v.ended

-- of a run that was not broken, with its start and the node of a slot
abbrev pub AtNode : {O J : Type 0} → Option (Start O) → (O → Machine) → HubView J → ℕ → (Start O → NodeId → Type 0) → Type 0
AtNode {O} start rules v slot P =
    v.broken ≡ false → (s : Start O) (n : NodeId) → start ≡ Some s → slice_get (rules s.origin).nodes slot ≡ Some n → P s n

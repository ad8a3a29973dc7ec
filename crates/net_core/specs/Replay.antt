-- A machine that stands for the events that it took: what holds of its histories, and what its calls answer.
use Rattle.std.specs.Prelude.{◌≡◌, ◌≢◌, ℕ, true, false, ◌∷◌, Option, Some}
use Rattle.std.specs.List.{slice_get}
use Rattle.morty_base.specs.declared.names.NodeId.{NodeId}
use Rattle.morty_base.specs.declared.names.NodeId.TheVariants.{Client}
use Rattle.msg.specs.declared.Event.{Event}
use Rattle.msg.specs.declared.Event.TheVariants.{Picked, Ran}
use Rattle.msg.specs.declared.Pick.TheVariants.{Idle}
use Rattle.net_core.specs.Machine.{History, Machine, Menu, Effect, Moves, Refused, Not_enabled}
use Rattle.net_core.specs.declared.machine.StepOut.{StepOut}
use Rattle.net_core.specs.declared.machine.StepOut.TheVariants as step
use Rattle.net_core.specs.declared.machine.RanStep.{RanStep}
use Rattle.net_core.specs.declared.machine.RanStep.TheVariants.{Used, Stale, Full}
use Rattle.net_core.specs.declared.link.Menu.{Menu as Lent}

-- what a call that takes an event answers
abbrev pub out_of : Effect → StepOut
out_of Moves = step.Moved
out_of Refused = step.Full
out_of Not_enabled = step.Idle

-- what a link sees of a menu that it is lent
abbrev pub shown : Lent → Menu
shown s = record { now = s.now; go = s.go; hurry = s.hurry; fresh = s.fresh.now; old = s.old.now; stuck = s.stuck }

-- after both histories the machine says the same
pub record SameMoment (m : Machine) (h h' : History) : Type 0 where
  pub live : (n : NodeId) → m.live h' n ≡ m.live h n
  pub pending : (n : NodeId) → m.pending h' n ≡ m.pending h n
  pub menu : (n : NodeId) → m.menu h' n ≡ m.menu h n
  pub effect : (e : Event) → m.effect h' e ≡ m.effect h e

-- what holds of a machine, whatever its origin: each slot has another node; only clients have jobs; an idle pick is never
-- enabled; what does not move it changes nothing; and a segment that is given back takes its client's job away and gives no
-- other node one
pub record IsLawful (m : Machine) : Type 0 where
  pub apart : (i j : ℕ) (n : NodeId) → slice_get m.nodes i ≡ Some n → slice_get m.nodes j ≡ Some n → i ≡ j
  pub clients_alone : (h : History) (n : NodeId) → m.pending h n ≡ true → (c : ℕ) × (n ≡ Client c)
  pub idle : (h : History) (n : NodeId) → m.effect h (Picked n Idle) ≡ Not_enabled
  pub still : (h : History) (e : Event) → m.effect h e ≢ Moves → SameMoment m h (e ∷ h)
  pub ran : (h : History) (c : ℕ) → m.effect h (Ran c) ≡ Moves → m.pending (Ran c ∷ h) (Client c) ≡ false
  pub ran_others : (h : History) (c : ℕ) (n : NodeId) → m.effect h (Ran c) ≡ Moves → n ≢ Client c → m.pending h n ≡ false → m.pending (Ran c ∷ h) n ≡ false

-- the node is live, and this is its pending job
pub record IsDue {J : Type 0} (m : Machine) (pending : Option J) (h : History) (n : NodeId) (j : J) : Type 0 where
  pub live : m.live h n ≡ true
  pub job : pending ≡ Some j

-- a segment of the pending job of a client was given back, with this effect
pub record IsTaken {J : Type 0} (m : Machine) (pending : Option J) (of_job : J → Type 0) (h : History) (n : NodeId) (f : Effect) (c : ℕ) : Type 0 where
  pub node : n ≡ Client c
  pub job : J
  pub due : IsDue m pending h n job
  pub is_of_job : of_job job
  pub effect : m.effect h (Ran c) ≡ f

-- what giving a segment back answers where this is the node's pending job, and the history after it: stale where it is of no
-- pending job of a live node
abbrev pub IsGiven : {J : Type 0} → Machine → Option J → (J → Type 0) → History → NodeId → RanStep → (History → Type 0) → Type 0
IsGiven {J} m pending of_job h n Stale after = ((j : J) → IsDue m pending h n j → ¬ of_job j) × after h
IsGiven m pending of_job h n Used after = (c : ℕ) × IsTaken m pending of_job h n Moves c × after (Ran c ∷ h)
IsGiven m pending of_job h n Full after = (c : ℕ) × IsTaken m pending of_job h n Refused c × after (Ran c ∷ h)

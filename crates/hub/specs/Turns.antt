-- What a turn of a node answers and does, and what giving a segment back does.
use Rattle.std.specs.Prelude.{◌≡◌, ◌≢◌, ℕ, ◌+◌, ◌-◌, ◌^◌, min, Bool, true, false, cond, nat_le}
use Rattle.std.specs.Prelude.{List, [], ◌∷◌, ◌++◌, length, replicate, slice_set, slice_index, Option, Some, None}
use Rattle.std.specs.List.{slice_get}
use Rattle.morty_base.specs.declared.names.NodeId.{NodeId}
use Rattle.morty_base.specs.declared.names.Ended.{Ended}
use Rattle.morty_base.specs.declared.names.Ended.TheVariants as ended
use Rattle.msg.specs.declared.Pick.{Pick}
use Rattle.msg.specs.declared.Event.{Event}
use Rattle.msg.specs.declared.Event.TheVariants.{Picked, Ran}
use Rattle.net_core.specs.Machine.{Machine, Effect, Moves, Refused, Not_enabled}
use Rattle.net_core.specs.Marks.{is_marked, is_quiet, is_turn, turns_made}
use Rattle.net_core.specs.Replay.{IsDue, IsTaken}
use Rattle.net_core.specs.declared.machine.StepOut.{StepOut}
use Rattle.net_core.specs.declared.machine.RanStep.{RanStep}
use Rattle.net_core.specs.declared.machine.RanStep.TheVariants.{Used, Stale, Full}
use Rattle.hub.specs.declared.turn_out.TurnCase.{TurnCase}
use Rattle.hub.specs.declared.turn_out.TurnOut.{TurnOut}
use Rattle.hub.specs.Views.{HubView, history, job_in, HasPending}

-- what a turn answers once the run has ended
abbrev pub ended_out : {J : Type 0} → Ended → TurnOut J
ended_out ended.Quiet = TurnOut.Quiet
ended_out ended.Spent = TurnOut.Spent
ended_out ended.Full = TurnOut.Full

-- what a turn that asked its link answers, and how the run ended by it
abbrev pub asked_out : {J : Type 0} → Effect → TurnOut J
asked_out Moves = TurnOut.Moved
asked_out Refused = TurnOut.Full
asked_out Not_enabled = TurnOut.Idle

abbrev pub ended_by : Effect → Option Ended
ended_by Refused = Some ended.Full
ended_by _ = None

-- no end was noted, and some node does not rest
pub record IsRunning {J : Type 0} (m : Machine) (v : HubView J) : Type 0 where
  pub no_end : v.ended ≡ None
  pub not_quiet : is_quiet m (history v) ≡ false

-- the pending job of a node, if there is one, is the one that was handed out last
abbrev pub NoneLeft : {J : Type 0} → Option J → List (Option J) → ℕ → Type 0
NoneLeft {J} due handed slot = (h : Option J) (j : J) → slice_get handed slot ≡ Some h → due ≡ Some j → h ≡ Some j

-- a pending job that was not handed out
abbrev pub IsLeft : {J : Type 0} → Option J → List (Option J) → ℕ → J → Type 0
IsLeft {J} due handed slot j = (due ≡ Some j) × ((h : Option J) → slice_get handed slot ≡ Some h → h ≢ Some j)

-- which case of a turn of the node n of a slot holds: the first of them
abbrev pub IsCase : {J : Type 0} → Machine → ℕ → NodeId → ℕ → HubView J → TurnCase J → Type 0
IsCase m turns n slot v (TurnCase.Over e) = v.ended ≡ Some e
IsCase m turns n slot v TurnCase.Quiet = (v.ended ≡ None) × (is_quiet m (history v) ≡ true)
IsCase m turns n slot v TurnCase.Stopped = IsRunning m v × (m.live (history v) n ≡ false)
IsCase m turns n slot v (TurnCase.Job j) = IsRunning m v × (m.live (history v) n ≡ true) × IsLeft (job_in v.jobs slot) v.handed slot j
IsCase m turns n slot v TurnCase.Marked =
    IsRunning m v × (m.live (history v) n ≡ true) × NoneLeft (job_in v.jobs slot) v.handed slot × (is_marked m (history v) n ≡ true)
IsCase m turns n slot v TurnCase.Spent =
    IsRunning m v × (m.live (history v) n ≡ true) × NoneLeft (job_in v.jobs slot) v.handed slot × (is_marked m (history v) n ≡ false)
    × (nat_le turns (turns_made n (history v)) ≡ true)
IsCase m turns n slot v TurnCase.Ask =
    IsRunning m v × (m.live (history v) n ≡ true) × NoneLeft (job_in v.jobs slot) v.handed slot × (is_marked m (history v) n ≡ false)
    × (nat_le turns (turns_made n (history v)) ≡ false)

-- a turn that asked its link: the pick is recorded, the run has ended if it was refused, and the jobs may be others if it moved
-- the machine
abbrev pub Asked : {J : Type 0} → Machine → NodeId → HubView J → HubView J → TurnOut J → Type 0
Asked m n old new out =
    (p : Pick) × (out ≡ asked_out (m.effect (history old) (Picked n p)))
    × (new ≡ record old { journal = old.journal ++ Picked n p ∷ []; jobs = new.jobs; ended = ended_by (m.effect (history old) (Picked n p)) })
    × (m.effect (history old) (Picked n p) ≢ Moves → new.jobs ≡ old.jobs)

-- what a turn answers and does in a case
abbrev pub Does : {J : Type 0} → Machine → NodeId → ℕ → HubView J → HubView J → TurnOut J → TurnCase J → Type 0
Does m n slot old new out (TurnCase.Over e) = (out ≡ ended_out e) × (new ≡ old)
Does m n slot old new out TurnCase.Quiet = (out ≡ TurnOut.Quiet) × (new ≡ record old { ended = Some ended.Quiet })
Does m n slot old new out TurnCase.Stopped = (out ≡ TurnOut.Stopped) × (new ≡ old)
Does m n slot old new out (TurnCase.Job j) = (out ≡ TurnOut.Job j) × (new ≡ record old { handed = slice_set old.handed slot (Some j) })
Does m n slot old new out TurnCase.Marked = (out ≡ TurnOut.Idle) × (new ≡ old)
Does m n slot old new out TurnCase.Spent = (out ≡ TurnOut.Spent) × (new ≡ record old { ended = Some ended.Spent })
Does m n slot old new out TurnCase.Ask = Asked m n old new out

-- a turn of the node of a slot, while the jobs were those of the rules
pub record IsTurn {J : Type 0} (m : Machine) (turns : ℕ) (n : NodeId) (slot : ℕ) (old new : HubView J) (out : TurnOut J) : Type 0 where
  pub pending : HasPending m old
  pub case : TurnCase J
  pub is_case : IsCase m turns n slot old case
  pub does : Does m n slot old new out case

-- giving a segment back: a stale one changes nothing; one that is used is recorded, the jobs may be others, and no job of the
-- slot counts as handed out; and one that the full mail refuses is recorded, and ends the run
abbrev pub Gave : {J : Type 0} → Machine → (J → Type 0) → NodeId → ℕ → HubView J → HubView J → RanStep → Type 0
Gave {J} m of_job n slot old new Stale = ((j : J) → IsDue m (job_in old.jobs slot) (history old) n j → ¬ of_job j) × (new ≡ old)
Gave m of_job n slot old new Used =
    (c : ℕ) × IsTaken m (job_in old.jobs slot) of_job (history old) n Moves c
    × (new ≡ record old { journal = old.journal ++ Ran c ∷ []; jobs = new.jobs; handed = slice_set old.handed slot None })
Gave m of_job n slot old new Full =
    (c : ℕ) × IsTaken m (job_in old.jobs slot) of_job (history old) n Refused c
    × (new ≡ record old { journal = old.journal ++ Ran c ∷ []; ended = Some ended.Full })

-- the marks after a pick of a slot
abbrev pub marks_after : ℕ → StepOut → List Bool → List Bool
marks_after slot StepOut.Moved marks = replicate (length marks) false
marks_after slot StepOut.Idle marks = slice_set marks slot true
marks_after slot StepOut.Full marks = slice_set marks slot false

-- the turns made after it
abbrev pub turns_after : ℕ → Pick → List ℕ → List ℕ
turns_after slot p made = cond (is_turn p) (slice_set made slot (min (slice_index made slot + 1) (2 ^ 32 - 1))) made

-- the journal, the marks, the jobs that were handed out, the count of used segments and the end after a segment was given back
abbrev pub journal_given : RanStep → ℕ → List Event → List Event
journal_given Used c events = events ++ Ran c ∷ []
journal_given Stale c events = events
journal_given Full c events = events ++ Ran c ∷ []

abbrev pub marks_given : RanStep → List Bool → List Bool
marks_given Used marks = replicate (length marks) false
marks_given _ marks = marks

abbrev pub handed_given : {J : Type 0} → RanStep → ℕ → List (Option J) → List (Option J)
handed_given Used slot handed = slice_set handed slot None
handed_given _ slot handed = handed

abbrev pub used_given : RanStep → ℕ → ℕ
used_given Used used = min (used + 1) (2 ^ 64 - 1)
used_given _ used = used

abbrev pub ended_given : RanStep → Option Ended
ended_given Full = Some ended.Full
ended_given _ = None

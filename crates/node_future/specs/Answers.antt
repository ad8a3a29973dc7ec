-- Which kinds of answers a Turns gives, and what each does to its counts.
use Rattle.std.specs.Prelude.{◌≡◌, ◌≤◌, ◌+◌, ℕ, Result, Ok, Err}
use Rattle.hub.specs.declared.turn_out.TurnOut.{TurnOut}
use Rattle.net_core.specs.declared.machine.RanStep.{RanStep}
use Rattle.net_core.specs.declared.machine.RanStep.TheVariants.{Used, Stale, Full}
use Rattle.node_future.specs.declared.answers.LastTurn.{LastTurn}
use Rattle.node_future.specs.declared.answers.LastGive.{LastGive}

-- the kind of a turn's answer, without the job
abbrev pub turn_kind : {J E : Type 0} → Result (TurnOut J) E → LastTurn
turn_kind (Ok TurnOut.Moved) = LastTurn.Moved
turn_kind (Ok (TurnOut.Job j)) = LastTurn.Job
turn_kind (Ok TurnOut.Idle) = LastTurn.Idle
turn_kind (Ok TurnOut.Quiet) = LastTurn.Quiet
turn_kind (Ok TurnOut.Spent) = LastTurn.Spent
turn_kind (Ok TurnOut.Stopped) = LastTurn.Stopped
turn_kind (Ok TurnOut.Full) = LastTurn.Full
turn_kind (Err e) = LastTurn.Refused

-- the kind of an answer to a segment that was given back
abbrev pub give_kind : {E : Type 0} → Result RanStep E → LastGive
give_kind (Ok Used) = LastGive.Used
give_kind (Ok Stale) = LastGive.Stale
give_kind (Ok Full) = LastGive.Full
give_kind (Err e) = LastGive.Refused

-- a turn that moved the run is one pick more; one that was idle or that the full mail refused may be one more; others are none
abbrev pub CountsTurn : LastTurn → ℕ → ℕ → Type 0
CountsTurn LastTurn.Moved old new = new ≡ old + 1
CountsTurn LastTurn.Idle old new = (old ≤ new) × (new ≤ old + 1)
CountsTurn LastTurn.Full old new = (old ≤ new) × (new ≤ old + 1)
CountsTurn _ old new = new ≡ old

-- a segment that was used is one more
abbrev pub CountsGive : LastGive → ℕ → ℕ → Type 0
CountsGive LastGive.Used old new = new ≡ old + 1
CountsGive _ old new = new ≡ old

-- a job that a turn answers fits
abbrev pub JobFits : {J E : Type 0} → (J → Type 0) → Result (TurnOut J) E → Type 0
JobFits fits (Ok (TurnOut.Job j)) = fits j
JobFits fits _ = Unit {0}

-- What an execution under way did, and the whole run that it is a part of.
use Rattle.std.specs.Prelude.{◌≡◌, Bool, [], length, Option, Some, None, Result, Ok, Err, ℤ}
use Rattle.morty_base.specs.declared.names.Key.{Key}
use Rattle.txn_lang.specs.declared.evaluation.EvalFault.{EvalFault}
use Rattle.txn_lang.specs.Value.{Value, is_true}
use Rattle.txn_lang.specs.Actions.{Actions, Next, ending_of, program_actions}
use Rattle.txn_lang.specs.Tree.{commands}
use Rattle.txn_lang.specs.Program.{Program}
use Rattle.txn_lang.specs.Runs.{Run, run}
use Rattle.txn_lang.specs.Laws.{joined}
use Rattle.serial_runs.specs.declared.effects.Effects.{Effects}
use Rattle.serial_runs.specs.declared.effects.Stop.{Stop}
use Rattle.serial_runs.specs.declared.effects.Stop.TheVariants.{Asks, Ends}
use Rattle.serial_runs.specs.declared.effects.Replay.{Replay}
use Rattle.serial_runs.specs.declared.effects.SerialRun.{SerialRun}
use Rattle.serial_runs.specs.declared.execution.Execution.{Execution}

-- what was done so far, as a run that has not stopped
abbrev pub run_so_far : Effects → Run
run_so_far d =
    record { reads = d.reads; writes = d.writes; out = d.out; begun = d.begun; asks = None; ending = None; known = d.known }

-- the run of an execution that did this and then stopped
abbrev pub stopped : Effects → Stop → Run
stopped d (Asks k) = record (run_so_far d) { asks = Some k }
stopped d (Ends how) = record (run_so_far d) { ending = Some how }

abbrev pub run_of_replay : Replay → Run
run_of_replay r = stopped r.did r.stop

abbrev pub run_of_serial : SerialRun → Run
run_of_serial r = stopped r.did (Ends r.ending)

-- the whole run of an execution that goes on with these actions
abbrev pub whole : {S : Type 0} → (S → Key → Option (ℤ × S)) → Execution S → Actions → Run
whole ask at a = joined (run_so_far at.did) (run ask a at.did.known at.source)

-- a step of the program was taken: whatever follows it, the whole run is the same from both states, and where the
-- step stopped it is what was done by then
abbrev pub IsStep : {S : Type 0} → (S → Key → Option (ℤ × S)) → Execution S → Execution S → (Next → Next) → Option Stop → Type 0
IsStep ask old new step None = (next : Next) → whole ask old (step next old.locals) ≡ whole ask new (next new.locals)
IsStep ask old new step (Some stop) = (next : Next) → whole ask old (step next old.locals) ≡ stopped new.did stop

-- two values, of which the first is evaluated first
abbrev pub both : Value → Value → Result (ℤ × ℤ) EvalFault
both (Ok x) (Ok y) = Ok (x, y)
both (Ok x) (Err fault) = Err fault
both (Err fault) y = Err fault

-- whether a number is not 0; a fault ends the execution
abbrev pub tested : Value → Result Bool Stop
tested (Ok x) = Ok (is_true x)
tested (Err fault) = Err (Ends (ending_of fault))

-- the run of a program over a source of answers
abbrev pub run_of : {S : Type 0} → (S → Key → Option (ℤ × S)) → Program → S → Run
run_of ask p s = run ask (program_actions (commands p.body) (length p.names)) [] s

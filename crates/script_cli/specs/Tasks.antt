-- What is left to do for a command: to write a text, or to run a world and then to write of its run.
use Rattle.std.specs.Prelude.{◌≡◌, ◌≤◌, true, List}
use Rattle.net_core.specs.Ruled.{LinkState}
use Rattle.script.specs.declared.setup.Setup.{Setup}
use Rattle.script.specs.Sayable.{IsSetup}
use Rattle.script_cli.specs.declared.run.Ready.{Ready}
use Rattle.script_cli.specs.Runs.{IsReady}
use Rattle.script_cli.specs.declared.words.Command.{Command}
use Rattle.script_cli.specs.declared.made.Task.{Task}
use Rattle.script_cli.specs.declared.made.Task.TheVariants.{Write, Run}
use Rattle.script_cli.specs.Words.{runs}
use Rattle.script_cli.specs.Due.{Due, due_of, IsRunDue}

-- a world stands ready of a script, and what is due of its run is as wanted
pub record IsToRun {V : Type 0} (state : V → LinkState) (c : Command) (handed : List LinkState) (Wanted : Due → Type 0) (ready : Ready V) : Type 0 where
  pub script : Setup
  pub setup : IsSetup script
  pub stands : IsReady state script handed ready
  pub due : (d : Due) → IsRunDue c script handed d → Wanted d

-- what is written then is as wanted
abbrev pub IsTask : {V : Type 0} → (V → LinkState) → Command → List LinkState → (Due → Type 0) → Task V → Type 0
IsTask state c handed Wanted (Write output) = Wanted (due_of state output)
IsTask state c handed Wanted (Run ready) = IsToRun state c handed Wanted ready

-- this is so where a run is left to do, or a status of at most 1 to answer
abbrev pub IsSoInTime : {V : Type 0} → Type 0 → Task V → Type 0
IsSoInTime So (Write output) = output.status ≤ 1 → So
IsSoInTime So (Run ready) = So

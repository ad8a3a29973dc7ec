-- What is left to do, as wanted in one way and in another.
use Rattle.std.proofs.Common.{◌≡◌, List, Result, subst}
use Rattle.std.specs.Prelude.{IfOk}
use Rattle.morty_base.specs.declared.list.NoMemory.{NoMemory}
use Rattle.net_core.specs.Ruled.{LinkState}
use Rattle.hub.proofs.Results.{if_ok}
use Rattle.script_cli.specs.declared.run.Ready.{Ready}
use Rattle.script_cli.specs.declared.words.Command.{Command}
use Rattle.script_cli.specs.declared.made.Task.{Task}
use Rattle.script_cli.specs.declared.made.Task.TheVariants.{Write, Run}
use Rattle.script_cli.specs.Due.{Due, due_of}
use Rattle.script_cli.specs.Tasks.{IsToRun, IsTask, IsSoInTime}

module _ {V : Type 0} where
  -- what is due is wanted in another way too
  pub task_map : (state : V → LinkState) (c : Command) (handed : List LinkState) (P Q : Due → Type 0) → ((d : Due) → P d → Q d) →
      (t : Task V) → IsTask state c handed P t → IsTask state c handed Q t
  task_map state c handed P Q weaken (Write output) is = weaken (due_of state output) is
  task_map state c handed P Q weaken (Run ready) is = record {
    script = is.script;
    setup = is.setup;
    stands = is.stands;
    due = λ d run. weaken d (is.due d run);
  }

  pub if_task : (state : V → LinkState) (c : Command) (handed : List LinkState) (P Q : Due → Type 0) → ((d : Due) → P d → Q d) →
      (r : Result (Task V) NoMemory) → IfOk r (IsTask state c handed P) → IfOk r (IsTask state c handed Q)
  if_task state c handed P Q weaken r = if_ok r (IsTask state c handed P) (IsTask state c handed Q) (task_map state c handed P Q weaken)

  -- what stands ready to run
  pub to_run : (state : V → LinkState) (c : Command) (handed : List LinkState) (P : Due → Type 0) (t : Task V) (ready : Ready V) →
      t ≡ Run ready → IsTask state c handed P t → IsToRun state c handed P ready
  to_run state c handed P t ready is task = subst (IsTask state c handed P) is task

  pub so_in_time : (So : Type 0) → So → (t : Task V) → IsSoInTime So t
  so_in_time So so (Write output) = λ few. so
  so_in_time So so (Run ready) = so

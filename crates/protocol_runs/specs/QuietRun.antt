-- A run of a script within its limits in which nothing disturbs and all arrives: one client, one replica, nine events.
use Rattle.std.specs.Prelude.{List, [], ◌∷◌, pos, codes}
use Rattle.txn_lang.specs.declared.tree.BinOp.TheVariants.{Add}
use Rattle.txn_lang.specs.declared.tree.Expr.TheVariants as expr
use Rattle.txn_lang.specs.declared.tree.Stmt.TheVariants as stmt
use Rattle.txn_lang.specs.Program.{Program}
use Rattle.protocol.specs.Words.{Client, Replica, Event, Picked, Ran, Deliver, Go}
use Rattle.protocol.specs.World.State.{Plan, first_world}
use Rattle.protocol.specs.World.Events.{replay_from}
use Rattle.protocol_plans.specs.Limits.{IsScript}
use Rattle.protocol_plans.specs.Scripted.{Scripted, plan_of}
use Rattle.law_progress.specs.Undisturbed.{IsUndisturbed, IsSettled}
use Rattle.law_progress.specs.Apart.{IsApart}
use Rattle.law_progress.specs.FirstCommits.{HasBegun}
use Rattle.protocol_runs.specs.Samples.{four}

-- read a x[1]; write x[1] a + 1; print a
abbrev pub inc_program : Program
inc_program = record {
  names = codes "a" ∷ [];
  body = record {
    stmts =
        stmt.Read 0 0 (expr.Num (pos 1)) ∷
        stmt.Write 0 (expr.Num (pos 1)) (expr.Bin Add (expr.Local 0, expr.Num (pos 1))) ∷
        stmt.Print (expr.Local 0) ∷ [];
  };
}

-- one replica, and one client that runs it
abbrev pub quiet_script : Scripted
quiet_script = record {
  replicas = 1;
  wardens = 0;
  clients = (record { program = inc_program; at = 10 } ∷ []) ∷ [];
  firsts = four;
  tries = 3;
  execs = 16;
  gap = 1;
}

abbrev pub quiet_events : List Event
quiet_events =
    Picked (Client 1) Go ∷ Ran 1 ∷ Picked (Replica 1) (Deliver 0) ∷ Picked (Client 1) (Deliver 1) ∷ Ran 1 ∷
    Picked (Replica 1) (Deliver 2) ∷ Picked (Replica 1) (Deliver 3) ∷ Picked (Client 1) (Deliver 4) ∷
    Picked (Replica 1) (Deliver 5) ∷ []

-- the run has all that the law on first commits asks of it, with a transaction that the law speaks of
pub record IsQuietRun (p : Plan) (events : List Event) : Type 0 where
  pub undisturbed : IsUndisturbed p first_world events
  pub settled : IsSettled (replay_from p first_world events)
  pub begun : HasBegun (replay_from p first_world events) 1 1
  pub apart : IsApart (replay_from p first_world events) 1 1

-- the script is within its limits, and has such a run
pub record QuietRun : Type 0 where
  pub limits : IsScript quiet_script
  pub run : IsQuietRun (plan_of quiet_script) quiet_events

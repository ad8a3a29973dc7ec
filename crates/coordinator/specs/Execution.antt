-- For which program an execution runs, and what it shows of the program's walk.
use Rattle.std.specs.Prelude.{◌≡◌, cond, Bool, false, List, [], Option, Some, None, is_none, ℤ}
use Rattle.txn_lang.specs.Program.{Program}
use Rattle.flat_code.specs.Operation.{Flat}
use Rattle.flat_code.specs.Does.{IsCodeOf}
use Rattle.continuation.specs.declared.segment.JobAt.TheVariants.{Start}
use Rattle.exec_log.specs.Log.{Log, fresh_log, asked_by, ending_by}
use Rattle.exec_log.specs.Standing as log
use Rattle.exec_log.specs.Standing.{IsLastJob}
use Rattle.protocol.specs.Words.{Key, Ending, Content}
use Rattle.protocol.specs.Client.State.{Answer, Walk, is_done, no_walk, reads_of}
use Rattle.protocol_plans.specs.Scripted.{program_walk}
use Rattle.coordinator.specs.Answers.{answers_with, keys_in}
use Rattle.coordinator.specs.declared.execution.Execution.{Execution}

-- a program with its code
pub record Loaded : Type 0 where
  pub program : Program
  pub code : Flat
  pub is_code : IsCodeOf code program

-- what a program does on answers; without a program, nothing
abbrev pub walk_of : Option Loaded → List ℤ → Walk
walk_of None vs = no_walk
walk_of (Some l) vs = program_walk l.program vs

-- an execution whose first job is pending
abbrev pub fresh_execution : Execution
fresh_execution = record { log = fresh_log; job = Start; nexts = [] }

-- the answers, with the labels of the next execution
abbrev pub answers_of : Execution → List Answer
answers_of e = answers_with e.log.reads e.nexts

-- the keys of the reads
abbrev pub keys_of : Execution → List Key
keys_of e = keys_in e.log.reads

-- the segment of a job is still to come
abbrev pub is_pending : Execution → Bool
is_pending e = is_none e.log.next

-- what a log shows of the walk while no job is pending
abbrev pub shown : Log → Walk
shown l = record { keys = keys_in l.reads; asks = asked_by l.next; ending = ending_by l.next; writes = l.writes; out = l.out }

-- the log stands for the program, and a pending job is its last one
pub record Follows (l : Loaded) (e : Execution) : Type 0 where
  pub log : log.StandsFor l.code l.program e.log
  pub job : e.log.next ≡ None → IsLastJob l.code l.program e.log e.job

-- without a program, the first job is pending for ever
pub record IsUnbegun (e : Execution) : Type 0 where
  pub reads : e.log.reads ≡ []
  pub next : e.log.next ≡ None

abbrev pub FollowsWhat : Option Loaded → Execution → Type 0
FollowsWhat None e = IsUnbegun e
FollowsWhat (Some l) e = Follows l e

-- an execution stands for a program, or for none
pub record StandsFor (o : Option Loaded) (e : Execution) : Type 0 where
  pub whole : e.log.broken ≡ false
  pub follows : FollowsWhat o e

-- what an execution that ended did
abbrev pub content_of : Execution → Ending → Content
content_of e how = record {
  reads = reads_of (keys_of e) (answers_of e);
  writes = cond (is_done how) e.log.writes [];
  out = e.log.out;
  ending = how;
}

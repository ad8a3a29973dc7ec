-- The programs of the language as the protocol takes them, and a plan that is made of them.
use Rattle.std.specs.Prelude.{ℕ, ℤ, List, map}
use Rattle.protocol.specs.Words.{Write}
use Rattle.txn_lang.specs.Keys.{Entry}
use Rattle.txn_lang.specs.Runs.{Run}
use Rattle.txn_lang.specs.Program.{Program, replay_of}
use Rattle.protocol.specs.declared.First2.{First2}
use Rattle.protocol.specs.Client.State.{Walk, Txn}
use Rattle.protocol.specs.World.State.{Plan}

-- a write of a run
abbrev pub write_of : Entry → Write
write_of e = record { key = e.key; value = e.value }

-- what a run says to the protocol: its values are the answers, so of its reads only the keys
abbrev pub walk_of : Run → Walk
walk_of r = record { keys = map (λ e. e.key) r.reads; asks = r.asks; ending = r.ending; writes = map write_of r.writes; out = r.out }

-- what a program does on answers is its replay on them
abbrev pub program_walk : Program → List ℤ → Walk
program_walk p answers = walk_of (replay_of p answers)

-- a transaction of a script: a program, and when it starts
pub record Start : Type 0 where
  pub program : Program
  pub at : ℕ

abbrev pub txn_of : Start → Txn
txn_of t = record { walk = program_walk t.program; at = t.at }

-- what a script says to the protocol
pub record Scripted : Type 0 where
  pub replicas : ℕ
  pub wardens : ℕ
  pub clients : List (List Start)
  pub firsts : List First2
  pub tries : ℕ
  pub execs : ℕ
  pub gap : ℕ

abbrev pub plan_of : Scripted → Plan
plan_of s = record {
  replicas = s.replicas;
  wardens = s.wardens;
  clients = map (map txn_of) s.clients;
  firsts = s.firsts;
  tries = s.tries;
  execs = s.execs;
  gap = s.gap;
}

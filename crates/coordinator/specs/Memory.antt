-- When what a client keeps stands for what the definitions remember.
use Rattle.std.specs.Prelude.{◌≡◌, ℕ, ◌+◌, ◌-◌, ◌*◌, ◌^◌, ◌<◌, ◌≤◌, min, max, Bool, false, cond, ◌&&◌, ◌==◌, List, [], map, length, Option, Some, None, slice_get, ◌⊎◌}
use Rattle.protocol.specs.Words.{Version, Body, Choice}
use Rattle.protocol.specs.declared.Fate.TheVariants.{Live, Unbegun}
use Rattle.protocol.specs.Client.Attempts.{bumped}
use Rattle.protocol.specs.Client.State as protocol
use Rattle.protocol.specs.Client.State.{ClientState, Txn, Turn, Phase}
use Rattle.protocol.specs.Client.State.Phase.{Between, Running, Prepared}
use Rattle.flat_code.specs.Operation.{Flat}
use Rattle.continuation.specs.declared.segment.Job.{Job}
use Rattle.coordinator.specs.Execution as execution
use Rattle.coordinator.specs.Execution.{Loaded, walk_of, answers_of, is_pending, fresh_execution}
use Rattle.coordinator.specs.declared.execution.Execution.{Execution}
use Rattle.coordinator.specs.declared.memory.Txn2.{Txn2}
use Rattle.coordinator.specs.declared.memory.Plan.{Plan}
use Rattle.coordinator.specs.declared.memory.Course.{Course}
use Rattle.coordinator.specs.declared.memory.Proposed.{Proposed}
use Rattle.coordinator.specs.declared.memory.Stage.{Stage}
use Rattle.coordinator.specs.declared.memory.Stage.TheVariants as stage
use Rattle.coordinator.specs.declared.memory.Memory.{Memory}

-- what the definitions are given, the programs by their numbers, and the number of each transaction's program
pub record Given : Type 0 where
  pub rules : protocol.Rules
  pub programs : List Loaded
  pub numbers : List ℕ

-- a transaction, as what its program does
abbrev pub txn_in : List Loaded → Txn2 → Txn
txn_in programs t = record { walk = walk_of (slice_get programs t.prog); at = t.at }

-- the rules of a client with this plan
abbrev pub rules_of : List Loaded → Plan → protocol.Rules
rules_of programs p = record {
  client = p.client;
  replicas = p.rules.replicas;
  tries = p.rules.tries;
  execs = p.rules.execs;
  gap = p.rules.gap;
  txns = map (txn_in programs) p.txns;
}

-- the program of a transaction
abbrev pub program_of : List Loaded → Option Txn2 → Option Loaded
program_of programs None = None
program_of programs (Some t) = slice_get programs t.prog

-- the program of the last transaction begun
abbrev pub current : List Loaded → Plan → ℕ → Option Loaded
current programs p begun = program_of programs (slice_get p.txns (begun - 1))

-- the codes of programs, by the same numbers
abbrev pub codes_of : List Loaded → List Flat
codes_of programs = map (λ l. l.code) programs

-- each transaction names one of the programs
abbrev pub HavePrograms : List Loaded → List Txn2 → Type 0
HavePrograms programs txns = (i : ℕ) (t : Txn2) → slice_get txns i ≡ Some t → (l : Loaded) × (slice_get programs t.prog ≡ Some l)

-- by the number that is given for it
pub record NamePrograms (g : Given) (txns : List Txn2) : Type 0 where
  pub there : HavePrograms g.programs txns
  pub numbers : map (λ (t : Txn2). t.prog) txns ≡ g.numbers

-- the limits of a plan
pub record IsWithinLimits (p : Plan) : Type 0 where
  pub few : length p.txns ≤ 64
  pub starts : (i : ℕ) (t : Txn2) → slice_get p.txns i ≡ Some t → t.at ≤ 1000000000000
  pub replicas : p.rules.replicas ≤ 5
  pub tries : p.rules.tries ≤ 8
  pub execs : p.rules.execs ≤ 64
  pub gap : p.rules.gap ≤ 1000000

-- how far a client within the limits can have come
pub record IsWithin (p : Plan) (k : Course) : Type 0 where
  pub begun : k.begun ≤ length p.txns
  pub attempt : k.attempt ≤ 8
  pub ts : k.exec.ver.ts ≤ 1000008000000 + 8 * k.begun + k.attempt

-- how far a client of the definitions has come
abbrev pub course_of : ClientState → Course
course_of c = record { begun = c.begun; attempt = c.try; exec = c.exec; serial = c.serial; fate = c.fate }

-- the choice that was proposed
abbrev pub choice_of : Option Proposed → Option Choice
choice_of None = None
choice_of (Some p) = Some p.choice

-- who accepted it
abbrev pub accepts_of : Option Proposed → List ℕ
accepts_of None = []
accepts_of (Some p) = p.accepts

-- the phase at a stage of an execution
abbrev pub phase_of : Stage → Execution → Phase
phase_of stage.Between e = Between
phase_of (stage.Running given) e = Running (is_pending e) given
phase_of (stage.Prepared b) e = Prepared b.content b.tally.votes (choice_of b.proposal) (accepts_of b.proposal)

-- next labels are there while an execution is prepared alone, which has ended and is voted on by all replicas
abbrev pub Holds : Plan → Stage → Execution → Type 0
Holds p stage.Between e = Unit {0}
Holds p (stage.Running given) e = e.nexts ≡ []
Holds p (stage.Prepared b) e = (is_pending e ≡ false) × (b.tally.replicas ≡ p.rules.replicas)

-- a transaction was begun, unless the client is still as it was at first
abbrev pub HasBegun : Stage → Course → Type 0
HasBegun stage.Between k = (k.fate ≡ Unbegun) ⊎ (0 < k.begun)
HasBegun (stage.Running given) k = 0 < k.begun
HasBegun (stage.Prepared b) k = 0 < k.begun

-- what is kept stands for what the definitions remember, but for the decisions and attempts, which no rule reads
pub record StandsFor (g : Given) (c : ClientState) (m : Memory) : Type 0 where
  pub rules : g.rules ≡ rules_of g.programs m.plan
  pub limits : IsWithinLimits m.plan
  pub programs : NamePrograms g m.plan.txns
  pub course : course_of c ≡ m.course
  pub within : IsWithin m.plan m.course
  pub started : HasBegun m.stage m.course
  pub answers : c.answers ≡ answers_of m.execution
  pub execution : execution.StandsFor (current g.programs m.plan m.course.begun) m.execution
  pub phase : c.phase ≡ phase_of m.stage m.execution
  pub holds : Holds m.plan m.stage m.execution

-- a turn is taken: its state is kept, and its bodies are to be sent
pub record Takes (g : Given) (t : Turn) (m : Memory) (bodies : List Body) : Type 0 where
  pub state : StandsFor g t.state m
  pub sent : bodies ≡ t.sent

-- when a transaction starts
abbrev pub start_in : Option Txn2 → ℕ
start_in None = 0
start_in (Some t) = t.at

-- the version of a try, later than this time
abbrev pub due_version : Plan → ℕ → ℕ → ℕ → Version
due_version p begun attempt last = record {
  ts = max (min (start_in (slice_get p.txns (begun - 1)) + min ((attempt - 1) * p.rules.gap) (2 ^ 64 - 1)) (2 ^ 64 - 1)) (min (last + 1) (2 ^ 64 - 1));
  client = p.client;
}

-- an attempt begins
abbrev pub begun_memory : Memory → ℕ → ℕ → Memory
begun_memory m begun attempt = record m {
  course = record {
    begun = begun;
    attempt = attempt;
    exec = record { ver = due_version m.plan begun attempt m.course.exec.ver.ts; eid = 0 };
    serial = bumped m.course.serial;
    fate = Live;
  };
  execution = fresh_execution;
  stage = stage.Running false;
}

-- the number of a transaction's program
abbrev pub prog_of : Option Txn2 → ℕ
prog_of None = 0
prog_of (Some t) = t.prog

abbrev pub awaits_at : Stage → Bool → Bool
awaits_at (stage.Running given) pending = pending
awaits_at _ pending = false

-- a job is pending
abbrev pub is_awaiting : Memory → Bool
is_awaiting m = awaits_at m.stage (is_pending m.execution)

-- the job of this serial is pending
abbrev pub awaits : Memory → ℕ → Bool
awaits m serial = is_awaiting m && serial == m.course.serial

-- the pending job
abbrev pub pending_job : Memory → Option Job
pending_job m = cond (is_awaiting m)
    (Some (record { client = m.plan.client; prog = prog_of (slice_get m.plan.txns (m.course.begun - 1)); serial = m.course.serial; at = m.execution.job })) None

-- the next execution of the version begins
abbrev pub rerun_memory : Memory → Memory
rerun_memory m = record m {
  course = record m.course { exec = record { ver = m.course.exec.ver; eid = min (m.course.exec.eid + 1) (2 ^ 32 - 1) } };
  stage = stage.Running false;
}

-- When clients stand for those of a world.
use Rattle.std.specs.Prelude.{◌≡◌, ℕ, suc, ◌+◌, ◌-◌, List, [], ◌++◌, map, length, get_or, Option, Some, None, flat_map}
use Rattle.std.specs.List.{slice_get}
use Rattle.protocol.specs.Words.{Envelope, Client as ClientNode}
use Rattle.protocol.specs.Client.State.{ClientState, Turn}
use Rattle.protocol.specs.World.State.{Plan, rules}
use Rattle.protocol.specs.World.Events.{at, to_all}
use Rattle.continuation.specs.declared.segment.Job.{Job}
use Rattle.coordinator.specs.Execution.{Loaded}
use Rattle.coordinator.specs.Memory.{Given, NamePrograms, pending_job, txn_in}
use Rattle.coordinator.specs.declared.memory.Rules.{Rules as ScriptRules}
use Rattle.coordinator.specs.declared.memory.Txn2.{Txn2}
use Rattle.coordinator.specs.Coordinator.{StandsFor}
use Rattle.coordinator.specs.declared.coordinator.Coordinator.{Coordinator}
use Rattle.world.specs.declared.clients.Clients.{Clients}

-- a plan, the programs of its transactions by their numbers, and for each client the number of each transaction's program
pub record Loads : Type 0 where
  pub plan : Plan
  pub programs : List Loaded
  pub numbers : List (List ℕ)

-- what client c is given
abbrev pub given : Loads → ℕ → Given
given l c = record { rules = rules l.plan c; programs = l.programs; numbers = get_or l.numbers (c - 1) [] }

-- the plan has these rules, and clients with these transactions, each of which names a program
pub record IsPlanOf (l : Loads) (rules : ScriptRules) (txns : List (List Txn2)) : Type 0 where
  pub replicas : l.plan.replicas ≡ rules.replicas
  pub tries : l.plan.tries ≡ rules.tries
  pub execs : l.plan.execs ≡ rules.execs
  pub gap : l.plan.gap ≡ rules.gap
  pub clients : l.plan.clients ≡ map (map (txn_in l.programs)) txns
  pub programs : (i : ℕ) (own : List Txn2) → slice_get txns i ≡ Some own → NamePrograms (given l (i + 1)) own

-- a coordinator that stands for what client c remembers
abbrev pub IsClient : Loads → ℕ → ClientState → Coordinator → Type 0
IsClient l c state s = StandsFor (given l c) state s

-- as many as the plan has, each of which stands for what it remembers
pub record AreClients (l : Loads) (states : ℕ → ClientState) (cs : Clients) : Type 0 where
  pub count : length cs.clients.items ≡ length l.plan.clients
  pub each : (i : ℕ) (s : Coordinator) → slice_get cs.clients.items i ≡ Some s → IsClient l (suc i) (states (suc i)) s

-- client c takes a turn, whose envelopes stand behind those that were there before
pub record TakesTurn (l : Loads) (c : ℕ) (t : Turn) (states : ℕ → ClientState) (cs : Clients) (before after : List Envelope) : Type 0 where
  pub stands : AreClients l (at c t.state states) cs
  pub sent : after ≡ before ++ flat_map (to_all l.plan.replicas (ClientNode c)) t.sent

abbrev pub job_in : Option Coordinator → Option Job
job_in None = None
job_in (Some s) = pending_job s.memory

-- the pending job of client c, if one is pending
abbrev pub job_of : Clients → ℕ → Option Job
job_of cs c = job_in (slice_get cs.clients.items (c - 1))

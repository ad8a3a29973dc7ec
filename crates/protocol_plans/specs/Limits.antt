-- The limits that a script keeps.
use Rattle.std.specs.Prelude.{◌≡◌, ◌≤◌, ◌⊎◌, List, map, length}
use Rattle.std.specs.List.{All, IsDistinct}
use Rattle.protocol.specs.Words.{same_key}
use Rattle.txn_lang.specs.Program.{IsProgram}
use Rattle.protocol_plans.specs.Scripted.{Start, Scripted}

-- a transaction: its program is within its own limits
pub record IsStart (t : Start) : Type 0 where
  pub program : IsProgram t.program
  pub at : t.at ≤ 1000000000000

-- what one client runs
pub record IsClient (ts : List Start) : Type 0 where
  pub few : length ts ≤ 64
  pub each : All IsStart ts

-- a script: its counts, the transactions of each client, and one first value for a key at most
pub record IsScript (s : Scripted) : Type 0 where
  pub replicas : (s.replicas ≡ 1) ⊎ ((s.replicas ≡ 3) ⊎ (s.replicas ≡ 5))
  pub wardens : s.wardens ≤ 2
  pub some_client : 1 ≤ length s.clients
  pub few_clients : length s.clients ≤ 16
  pub clients : All IsClient s.clients
  pub firsts : IsDistinct same_key (map (λ f. f.key) s.firsts)
  pub some_try : 1 ≤ s.tries
  pub few_tries : s.tries ≤ 8
  pub some_exec : 1 ≤ s.execs
  pub few_execs : s.execs ≤ 64
  pub some_gap : 1 ≤ s.gap
  pub small_gap : s.gap ≤ 1000000

-- The scripts that some text says, told by their parts: the limits of scripts, names that are distinct and known, and
-- numbers that a text may have.
use Rattle.std.specs.Prelude.{◌≡◌, ℕ, ◌<◌, ◌≤◌, true, false, List, map, length, ⊤}
use Rattle.std.specs.List.{list_all, AllByRecursion, IsDistinct}
use Rattle.std.specs.Str.{bytes_eq}
use Rattle.morty_base.specs.declared.names.Version.{Version}
use Rattle.morty_base.specs.declared.names.NodeId.{NodeId}
use Rattle.morty_base.specs.declared.names.NodeId.TheVariants as nodes
use Rattle.morty_base.specs.Names.{same_key}
use Rattle.morty_base.specs.ScriptNames.{is_name}
use Rattle.msg.specs.declared.Pick.{Pick}
use Rattle.msg.specs.declared.Pick.TheVariants as pick
use Rattle.net_core.specs.declared.plan.PlanItem.{PlanItem}
use Rattle.net_core.specs.declared.plan.PlanWhat.{PlanWhat}
use Rattle.net_core.specs.declared.plan.PlanWhat.TheVariants as what
use Rattle.txn_lang.specs.Limits.{IsWithin}
use Rattle.txn_lang.specs.Form.{IsWellFormed}
use Rattle.txn_text.specs.declared.bytes.TheConstants.{GREATEST_NUMBER}
use Rattle.txn_parse.specs.Binding.{Names}
use Rattle.txn_print.specs.Written.{IsWritten, AreWritten}
use Rattle.script.specs.declared.limits.TheConstants.{MOST_TABLES, MOST_PROGRAMS, MOST_CLIENTS, MOST_TRANSACTIONS, LATEST_START, MOST_CALLS, GREATEST_PERCENTAGE, GREATEST_PLANNED}
use Rattle.script.specs.declared.items.SettingName.TheVariants as named
use Rattle.script.specs.declared.setup.First.{First}
use Rattle.script.specs.declared.setup.Txn.{Txn}
use Rattle.script.specs.declared.setup.Net.{Net}
use Rattle.script.specs.declared.setup.Net.TheVariants as net
use Rattle.script.specs.declared.setup.Setup.{Setup}
use Rattle.script.specs.Meaning.{Named, Script, prog_names, said_by}
use Rattle.script.specs.Checks.{may_be, is_listed}

-- distinct names, of which there are few enough
pub record AreNames (most : ℕ) (names : Names) : Type 0 where
  pub named : list_all is_name names ≡ true
  pub distinct : IsDistinct bytes_eq names
  pub few : length names ≤ most

-- a first value of one of so many tables
pub record IsFirst (tables : ℕ) (f : First) : Type 0 where
  pub known : f.key.table < tables
  pub index : IsWritten f.key.index
  pub value : IsWritten f.value

-- first values, one of a key
pub record AreFirsts (tables : ℕ) (firsts : List First) : Type 0 where
  pub each : AllByRecursion (IsFirst tables) firsts
  pub distinct : IsDistinct same_key (map (λ f. f.key) firsts)

-- a program over so many tables
pub record IsProg (tables : ℕ) (p : Named) : Type 0 where
  pub within : IsWithin (length p.locals) p.body
  pub formed : IsWellFormed p.locals p.body
  pub written : AreWritten tables p.body

-- a transaction of one of so many programs
pub record IsTxn (programs : ℕ) (t : Txn) : Type 0 where
  pub known : t.prog < programs
  pub start : t.at ≤ LATEST_START

-- the transactions of a client
pub record IsClient (programs : ℕ) (txns : List Txn) : Type 0 where
  pub each : AllByRecursion (IsTxn programs) txns
  pub few : length txns ≤ MOST_TRANSACTIONS

pub record AreClients (programs : ℕ) (clients : List (List Txn)) : Type 0 where
  pub each : AllByRecursion (IsClient programs) clients
  pub some : 0 < length clients
  pub few : length clients ≤ MOST_CLIENTS

-- the numbers of a net
abbrev pub IsNet : Net → Type 0
IsNet (net.Seeded seed late again hurry) =
    (seed ≤ GREATEST_NUMBER) × (late ≤ GREATEST_PERCENTAGE) × (again ≤ GREATEST_PERCENTAGE) × (hurry ≤ GREATEST_PERCENTAGE)
IsNet n = ⊤

-- a node of the script
abbrev pub IsNode : Script → NodeId → Type 0
IsNode s (nodes.Client n) = (1 ≤ n) × (n ≤ length s.clients)
IsNode s (nodes.Replica n) = (1 ≤ n) × (n ≤ s.replicas)
IsNode s (nodes.Warden n) = (1 ≤ n) × (n ≤ s.wardens)

abbrev pub IsVersion : Version → Type 0
IsVersion v = (v.ts ≤ GREATEST_NUMBER) × (v.client ≤ GREATEST_PLANNED)

-- a pick that a script can say, which is any but Idle
abbrev pub IsPick : Pick → Type 0
IsPick pick.Idle = ⊥
IsPick (pick.Deliver n) = n ≤ GREATEST_NUMBER
IsPick (pick.Recover x) = IsVersion x.ver × (x.eid ≤ GREATEST_PLANNED)
IsPick (pick.Truncate v) = IsVersion v
IsPick p = ⊤

-- for how many calls an entry stands
abbrev pub IsCalls : ℕ → Type 0
IsCalls n = (1 ≤ n) × (n ≤ MOST_CALLS)

-- what a plan item may say: lists stand with a listed net alone, and `at` with the others
abbrev pub IsPlanned : Net → PlanWhat → Type 0
IsPlanned n (what.At now p) = (is_listed n ≡ false) × (now ≤ GREATEST_NUMBER) × IsPick p
IsPlanned n (what.Wait calls) = (is_listed n ≡ true) × IsCalls calls
IsPlanned n (what.Next calls) = (is_listed n ≡ true) × IsCalls calls
IsPlanned n (what.Newest calls) = (is_listed n ≡ true) × IsCalls calls
IsPlanned n (what.One p) = (is_listed n ≡ true) × IsPick p

pub record IsPlanItem (s : Script) (item : PlanItem) : Type 0 where
  pub node : IsNode s item.node
  pub says : IsPlanned s.net item.what

-- settings within their limits
pub record AreSettings (s : Script) : Type 0 where
  pub replicas : may_be named.Replicas s.replicas ≡ true
  pub wardens : may_be named.Wardens s.wardens ≡ true
  pub tries : may_be named.Tries s.tries ≡ true
  pub execs : may_be named.Execs s.execs ≡ true
  pub gap : may_be named.Gap s.gap ≡ true
  pub turns : may_be named.Turns s.turns ≡ true

pub record IsSayable (s : Script) : Type 0 where
  pub settings : AreSettings s
  pub tables : AreNames MOST_TABLES s.tables
  pub firsts : AreFirsts (length s.tables) s.firsts
  pub named : AreNames MOST_PROGRAMS (prog_names s)
  pub progs : AllByRecursion (IsProg (length s.tables)) s.progs
  pub clients : AreClients (length s.progs) s.clients
  pub net : IsNet s.net
  pub plan : AllByRecursion (IsPlanItem s) s.plan

-- a setup that some text says
abbrev pub IsSetup : Setup → Type 0
IsSetup s = IsSayable (said_by s)

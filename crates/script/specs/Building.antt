-- A setup while the items of its script are taken: what they say so far, and what is found by a search.
use Rattle.std.specs.Prelude.{◌≡◌, ◌≤◌, ℕ, true, List, length}
use Rattle.std.specs.Ordering.{nat_cmp, int_cmp, ordering_then}
use Rattle.std.specs.declared.cmp.Ordering.{Ordering}
use Rattle.std.specs.BTreeSet.{contains}
use Rattle.morty_base.specs.ScriptNames.{is_name}
use Rattle.morty_base.specs.declared.names.Key.{Key}
use Rattle.txn_text.specs.Tokens.{token_bytes}
use Rattle.txn_parse.specs.Binding.{Names, place, IsParsed}
use Rattle.txn_parse.specs.NameIndex.{IsIndexOf}
use Rattle.script.specs.declared.limits.TheConstants.{MOST_TABLES, MOST_PROGRAMS, MOST_CLIENTS}
use Rattle.script.specs.declared.setup.Setup.{Setup}
use Rattle.script.specs.declared.builder.SetupBuilder.{SetupBuilder}
use Rattle.script.specs.Items.{Item, Table, Program}
use Rattle.script.specs.declared.items.RawEntry.{RawEntry}
use Rattle.script.specs.declared.items.RawTxn.{RawTxn}
use Rattle.morty_base.specs.declared.names.NodeId.{NodeId}
use Rattle.net_core.specs.declared.plan.PlanItem.{PlanItem}
use Rattle.script.specs.Meaning.{Said, said_by, prog_names, entry_of}
use Rattle.script.specs.Checks.{has_first}

-- what the items say that were taken
abbrev pub said_so_far : SetupBuilder → Said
said_so_far b = record { script = said_by b.setup; stated = b.stated }

-- keys by table, and then by index
abbrev pub key_cmp : Key → Key → Ordering
key_cmp a b = ordering_then (nat_cmp a.table b.table) (int_cmp a.index b.index)

-- names and first values are found, and their numbers are within the limits
pub record IsIndexed (b : SetupBuilder) : Type 0 where
  pub tables : IsIndexOf b.tables b.setup.tables
  pub programs : IsIndexOf b.programs (prog_names (said_by b.setup))
  pub firsts : (k : Key) → contains key_cmp b.firsts k ≡ has_first k b.setup.firsts
  pub few_tables : length b.setup.tables ≤ MOST_TABLES
  pub few_programs : length b.setup.progs ≤ MOST_PROGRAMS
  pub few_clients : length b.setup.clients ≤ MOST_CLIENTS

-- what is found by a search is the same
pub record HasSameNames (s t : Setup) : Type 0 where
  pub tables : t.tables ≡ s.tables
  pub firsts : t.firsts ≡ s.firsts
  pub progs : t.progs ≡ s.progs
  pub clients : t.clients ≡ s.clients

-- names are names, and the block of a program was read of the text
abbrev pub IsReadable : List ℕ → Item → Type 0
IsReadable text (Table name) = is_name (token_bytes text name) ≡ true
IsReadable text (Program word name body) = (is_name (token_bytes text name) ≡ true) × IsParsed text body
IsReadable text i = Unit {0}

-- the plan item of an entry, at a node
abbrev pub planned_at : List ℕ → NodeId → RawEntry → PlanItem
planned_at text node e = record { node = node; what = entry_of text e }

-- the place of a transaction's program among these
abbrev pub place_by : List ℕ → Names → RawTxn → ℕ
place_by text names t = place names (token_bytes text t.name)

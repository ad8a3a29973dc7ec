-- The checks that the items of a script pass, in the order in which they are made: the third stage of faults.
use Rattle.std.specs.Prelude.{ℕ, zero, suc, ◌+◌, ◌==◌, ◌||◌, ◌&&◌, Bool, true, false, not, nat_le, List, [], ◌∷◌, ◌++◌, map, length, Option, Some, None}
use Rattle.std.specs.List.{list_any}
use Rattle.morty_base.specs.declared.names.Key.{Key}
use Rattle.morty_base.specs.Names.{same_key}
use Rattle.txn_text.specs.declared.kinds.Token.{Token}
use Rattle.txn_text.specs.declared.faults.FaultKind.{FaultKind}
use Rattle.txn_text.specs.declared.faults.FaultKind.TheVariants as fault
use Rattle.txn_text.specs.Tokens.{token_bytes}
use Rattle.txn_parse.specs.Tree.{Commands}
use Rattle.txn_parse.specs.Binding.{Check, Names, is_known, is_unknown, known_checks, table_checks, local_checks, limit_check, number_of}
use Rattle.script.specs.declared.limits.TheConstants.{MOST_TRIES, MOST_EXECS, GREATEST_GAP, MOST_TURNS, MOST_WARDENS, MOST_TABLES, MOST_PROGRAMS, MOST_CLIENTS, MOST_TRANSACTIONS, LATEST_START, MOST_CALLS, GREATEST_PERCENTAGE, GREATEST_PLANNED}
use Rattle.script.specs.declared.items.SettingName.{SettingName}
use Rattle.script.specs.declared.items.SettingName.TheVariants as named
use Rattle.script.specs.declared.items.NodeKind.{NodeKind}
use Rattle.script.specs.declared.items.NodeKind.TheVariants as kind
use Rattle.script.specs.declared.items.RawNode.{RawNode}
use Rattle.script.specs.declared.items.RawPick.{RawPick}
use Rattle.script.specs.declared.items.RawPick.TheVariants as raw_pick
use Rattle.script.specs.declared.items.RawEntry.{RawEntry}
use Rattle.script.specs.declared.items.RawEntry.TheVariants as entry
use Rattle.script.specs.declared.items.RawTxn.{RawTxn}
use Rattle.script.specs.declared.items.RawNet.{RawNet}
use Rattle.script.specs.declared.items.RawNet.TheVariants as raw_net
use Rattle.script.specs.declared.setup.Net.{Net as NetValue}
use Rattle.script.specs.declared.setup.Net.TheVariants as net
use Rattle.script.specs.declared.setup.First.{First as FirstValue}
use Rattle.script.specs.Items.{Item, Version, Setting, Policy, Table, First, Program, Client, Net, At, Entries, End}
use Rattle.script.specs.Meaning.{Script, Said, is_stated, first_of, prog_names, after}

abbrev pub check : Bool → Token → FaultKind → Check
check fails t kind = record { fails = fails; line = t.line; kind = kind }

abbrev pub between : ℕ → ℕ → ℕ → Bool
between least most n = nat_le least n && nat_le n most

-- a number that a setting may have
abbrev pub may_be : SettingName → ℕ → Bool
may_be named.Replicas n = n == 1 || (n == 3 || n == 5)
may_be named.Wardens n = nat_le n MOST_WARDENS
may_be named.Tries n = between 1 MOST_TRIES n
may_be named.Execs n = between 1 MOST_EXECS n
may_be named.Gap n = between 1 GREATEST_GAP n
may_be named.Turns n = between 1 MOST_TURNS n

-- a first value of this key stands already
abbrev pub has_first : Key → List FirstValue → Bool
has_first key fs = list_any (λ f. same_key f.key key) fs

-- each transaction's program stands earlier
abbrev pub program_checks : List ℕ → Names → List RawTxn → List Check
program_checks text names txns = known_checks fault.UnknownProgram text names (map (λ t. t.name) txns)

-- where there is room for so many, the next one is one too many
abbrev pub room_checks : ℕ → List RawTxn → List Check
room_checks room [] = []
room_checks zero (t ∷ ts) = check true t.name fault.TooManyTransactions ∷ []
room_checks (suc room) (t ∷ ts) = room_checks room ts

-- a number that is stated is within its limits
abbrev pub number_checks : List ℕ → (ℕ → Bool) → FaultKind → Option Token → List Check
number_checks text may kind None = []
number_checks text may kind (Some n) = check (not (may (number_of text n))) n kind ∷ []

abbrev pub at_most : ℕ → ℕ → Bool
at_most most n = nat_le n most

abbrev pub start_checks : List ℕ → List RawTxn → List Check
start_checks text [] = []
start_checks text (t ∷ ts) = number_checks text (at_most LATEST_START) fault.AtRange t.at ++ start_checks text ts

-- how many nodes of a kind the script has
abbrev pub nodes_in : NodeKind → Script → ℕ
nodes_in kind.Client s = length s.clients
nodes_in kind.Replica s = s.replicas
nodes_in kind.Warden s = s.wardens

abbrev pub node_check : List ℕ → Script → RawNode → Check
node_check text s n = check (not (between 1 (nodes_in n.kind s) (number_of text n.number))) n.number fault.NoSuchNode

abbrev pub is_listed : NetValue → Bool
is_listed net.Listed = true
is_listed n = false

abbrev pub planned_check : List ℕ → Token → Check
planned_check text n = check (not (nat_le (number_of text n) GREATEST_PLANNED)) n fault.PlanRange

abbrev pub pick_checks : List ℕ → RawPick → List Check
pick_checks text (raw_pick.Recover v eid) = planned_check text v.client ∷ planned_check text eid ∷ []
pick_checks text (raw_pick.Truncate v) = planned_check text v.client ∷ []
pick_checks text p = []

abbrev pub entry_checks : List ℕ → RawEntry → List Check
entry_checks text (entry.Calls c n) = number_checks text (between 1 MOST_CALLS) fault.PlanRange n
entry_checks text (entry.One p) = pick_checks text p

abbrev pub entries_checks : List ℕ → List RawEntry → List Check
entries_checks text [] = []
entries_checks text (e ∷ es) = entry_checks text e ++ entries_checks text es

abbrev pub percentage_check : List ℕ → Token → Check
percentage_check text n = check (not (nat_le (number_of text n) GREATEST_PERCENTAGE)) n fault.NetRange

abbrev pub net_checks : List ℕ → RawNet → List Check
net_checks text (raw_net.Seeded seed late again hurry) = percentage_check text late ∷ percentage_check text again ∷ percentage_check text hurry ∷ []
net_checks text n = []

-- the checks of a program's own name
abbrev pub name_checks : List ℕ → Script → Token → List Check
name_checks text s name =
    check (is_known (prog_names s) (token_bytes text name)) name fault.RepeatedProgram ∷
    check (nat_le MOST_PROGRAMS (length s.progs)) name fault.TooManyPrograms ∷ []

abbrev pub program_item_checks : List ℕ → Script → Token → Token → Commands → List Check
program_item_checks text s word name body =
    table_checks text s.tables body ++ (name_checks text s name ++ (local_checks text [] body ++ limit_check text s.tables body word.line ∷ []))

abbrev pub client_checks : List ℕ → Script → Token → Token → List RawTxn → List Check
client_checks text s word n txns =
    check (not (number_of text n == length s.clients + 1) || nat_le MOST_CLIENTS (length s.clients)) word fault.ClientOrder ∷ (
    program_checks text (prog_names s) txns ++ (room_checks MOST_TRANSACTIONS txns ++ start_checks text txns))

-- the checks of an item behind what is said, kind by kind, the names of one kind in text order
abbrev pub checks : List ℕ → Said → Item → List Check
checks text s (Version n) = check (not (number_of text n == 1)) n fault.Version ∷ []
checks text s (Setting name word n) =
    check (is_stated name s.stated) word fault.RepeatedSetting ∷ check (not (may_be name (number_of text n))) n fault.SettingRange ∷ []
checks text s (Policy word p) = check s.stated.policy word fault.RepeatedSetting ∷ []
checks text s (Table n) =
    check (is_known s.script.tables (token_bytes text n)) n fault.RepeatedTable ∷
    check (nat_le MOST_TABLES (length s.script.tables)) n fault.TooManyTables ∷ []
checks text s (First word table index value) =
    check (is_unknown text s.script.tables table) table fault.UnknownTable ∷
    check (has_first (first_of text s.script.tables table index value).key s.script.firsts) word fault.RepeatedFirst ∷ []
checks text s (Program word name body) = program_item_checks text s.script word name body
checks text s (Client word n txns) = client_checks text s.script word n txns
checks text s (Net n) = net_checks text n
checks text s (At word now n p) =
    node_check text s.script n ∷ check (is_listed s.script.net) word fault.WrongNet ∷ pick_checks text p
checks text s (Entries word n es) =
    node_check text s.script n ∷ check (not (is_listed s.script.net)) word fault.WrongNet ∷ entries_checks text es
checks text s (End word) = check (length s.script.clients == 0) word fault.ClientOrder ∷ []

-- the checks of items behind what is said, one item after another
abbrev pub all_checks : List ℕ → Said → List Item → List Check
all_checks text s [] = []
all_checks text s (i ∷ is) = checks text s i ++ all_checks text (after text s i) is

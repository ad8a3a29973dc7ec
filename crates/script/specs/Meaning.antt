-- What the items of a script say, one part after another. Names are told by their bytes, tables, programs and locals by
-- their places in text order.
use Rattle.std.specs.Prelude.{ℕ, Bool, true, false, List, [], ◌∷◌, ◌++◌, map, Option, Some, None, if◌then◌else◌, ℤ, pos, neg_ℤ}
use Rattle.morty_base.specs.declared.names.NodeId.{NodeId}
use Rattle.morty_base.specs.declared.names.NodeId.TheVariants as nodes
use Rattle.morty_base.specs.declared.names.Version.{Version as VersionValue}
use Rattle.msg.specs.declared.Pick.{Pick}
use Rattle.msg.specs.declared.Pick.TheVariants as pick
use Rattle.net_core.specs.declared.plan.PlanItem.{PlanItem}
use Rattle.net_core.specs.declared.plan.PlanWhat.{PlanWhat}
use Rattle.net_core.specs.declared.plan.PlanWhat.TheVariants as what
use Rattle.txn_lang.specs.Tree as lang
use Rattle.txn_text.specs.declared.kinds.Token.{Token}
use Rattle.txn_text.specs.Tokens.{token_bytes}
use Rattle.txn_parse.specs.Tree.{Commands}
use Rattle.txn_parse.specs.Binding.{Names, place, names_of, bound_body, number_of}
use Rattle.script.specs.declared.setup.Policy.{Policy as PolicyValue}
use Rattle.script.specs.declared.setup.Policy.TheVariants.{Rewind}
use Rattle.script.specs.declared.setup.First.{First as FirstValue}
use Rattle.script.specs.declared.setup.NamedProg.{NamedProg}
use Rattle.script.specs.declared.setup.Txn.{Txn}
use Rattle.script.specs.declared.setup.Net.{Net as NetValue}
use Rattle.script.specs.declared.setup.Net.TheVariants as net
use Rattle.script.specs.declared.setup.Setup.{Setup}
use Rattle.script.specs.declared.items.Stated.{Stated}
use Rattle.script.specs.declared.items.SettingName.{SettingName}
use Rattle.script.specs.declared.items.SettingName.TheVariants as named
use Rattle.script.specs.declared.items.NodeKind.{NodeKind}
use Rattle.script.specs.declared.items.NodeKind.TheVariants as kind
use Rattle.script.specs.declared.items.Calls.{Calls}
use Rattle.script.specs.declared.items.Calls.TheVariants as calls
use Rattle.script.specs.declared.items.Signed.{Signed}
use Rattle.script.specs.declared.items.RawNode.{RawNode}
use Rattle.script.specs.declared.items.RawVersion.{RawVersion}
use Rattle.script.specs.declared.items.RawPick.{RawPick}
use Rattle.script.specs.declared.items.RawPick.TheVariants as raw_pick
use Rattle.script.specs.declared.items.RawEntry.{RawEntry}
use Rattle.script.specs.declared.items.RawEntry.TheVariants as entry
use Rattle.script.specs.declared.items.RawTxn.{RawTxn}
use Rattle.script.specs.declared.items.RawNet.{RawNet}
use Rattle.script.specs.declared.items.RawNet.TheVariants as raw_net
use Rattle.script.specs.Items.{Item, Version, Setting, Policy, Table, First, Program, Client, Net, At, Entries, End}

-- a program: its name, its locals' names and its body
pub record Named : Type 0 where
  pub name : List ℕ
  pub locals : Names
  pub body : lang.Commands

-- what a script says
pub record Script : Type 0 where
  pub replicas : ℕ
  pub wardens : ℕ
  pub tries : ℕ
  pub execs : ℕ
  pub gap : ℕ
  pub turns : ℕ
  pub policy : PolicyValue
  pub tables : Names
  pub firsts : List FirstValue
  pub progs : List Named
  pub clients : List (List Txn)
  pub net : NetValue
  pub plan : List PlanItem

abbrev pub named_of : NamedProg → Named
named_of p = record { name = p.name; locals = p.prog.names; body = lang.commands p.prog.body }

-- what a setup says
abbrev pub said_by : Setup → Script
said_by s = record {
  replicas = s.replicas;
  wardens = s.wardens;
  tries = s.tries;
  execs = s.execs;
  gap = s.gap;
  turns = s.turns;
  policy = s.policy;
  tables = s.tables;
  firsts = s.firsts;
  progs = map named_of s.progs;
  clients = s.clients;
  net = s.net;
  plan = s.plan;
}

-- a script that says nothing
abbrev pub silent : Script
silent = record {
  replicas = 3;
  wardens = 0;
  tries = 3;
  execs = 16;
  gap = 1;
  turns = 5000;
  policy = Rewind;
  tables = [];
  firsts = [];
  progs = [];
  clients = [];
  net = net.Fair;
  plan = [];
}

-- with a number for a setting
abbrev pub with_setting : SettingName → ℕ → Script → Script
with_setting named.Replicas n s = record s { replicas = n }
with_setting named.Wardens n s = record s { wardens = n }
with_setting named.Tries n s = record s { tries = n }
with_setting named.Execs n s = record s { execs = n }
with_setting named.Gap n s = record s { gap = n }
with_setting named.Turns n s = record s { turns = n }

-- which settings are stated
abbrev pub is_stated : SettingName → Stated → Bool
is_stated named.Replicas s = s.replicas
is_stated named.Wardens s = s.wardens
is_stated named.Tries s = s.tries
is_stated named.Execs s = s.execs
is_stated named.Gap s = s.gap
is_stated named.Turns s = s.turns

abbrev pub with_stated : SettingName → Stated → Stated
with_stated named.Replicas s = record s { replicas = true }
with_stated named.Wardens s = record s { wardens = true }
with_stated named.Tries s = record s { tries = true }
with_stated named.Execs s = record s { execs = true }
with_stated named.Gap s = record s { gap = true }
with_stated named.Turns s = record s { turns = true }

abbrev pub none_stated : Stated
none_stated = record { replicas = false; wardens = false; tries = false; execs = false; gap = false; turns = false; policy = false }

-- what is said so far, and which settings were stated
pub record Said : Type 0 where
  pub script : Script
  pub stated : Stated

abbrev pub nothing_said : Said
nothing_said = record { script = silent; stated = none_stated }

-- the names of the programs
abbrev pub prog_names : Script → Names
prog_names s = map (λ p. p.name) s.progs

abbrev pub signed : List ℕ → Signed → ℤ
signed text s = if s.minus then neg_ℤ (pos (number_of text s.digits)) else pos (number_of text s.digits)

-- the first value of a key
abbrev pub first_of : List ℕ → Names → Token → Signed → Signed → FirstValue
first_of text ts table index value =
    record { key = record { table = place ts (token_bytes text table); index = signed text index }; value = signed text value }

abbrev pub prog_of : List ℕ → Names → Token → Commands → Named
prog_of text ts name body = record { name = token_bytes text name; locals = names_of text body; body = bound_body text ts body }

abbrev pub number_of_or : ℕ → List ℕ → Option Token → ℕ
number_of_or otherwise text None = otherwise
number_of_or otherwise text (Some n) = number_of text n

-- a transaction; without `at` it may start at 0
abbrev pub txn_of : List ℕ → Names → RawTxn → Txn
txn_of text ps t = record { prog = place ps (token_bytes text t.name); at = number_of_or 0 text t.at }

abbrev pub net_of : List ℕ → RawNet → NetValue
net_of text raw_net.Fair = net.Fair
net_of text raw_net.Listed = net.Listed
net_of text (raw_net.Seeded seed late again hurry) = net.Seeded (number_of text seed) (number_of text late) (number_of text again) (number_of text hurry)

abbrev pub node_by : NodeKind → ℕ → NodeId
node_by kind.Client n = nodes.Client n
node_by kind.Replica n = nodes.Replica n
node_by kind.Warden n = nodes.Warden n

abbrev pub node_of : List ℕ → RawNode → NodeId
node_of text n = node_by n.kind (number_of text n.number)

abbrev pub version_of : List ℕ → RawVersion → VersionValue
version_of text v = record { ts = number_of text v.ts; client = number_of text v.client }

abbrev pub pick_of : List ℕ → RawPick → Pick
pick_of text raw_pick.Go = pick.Go
pick_of text raw_pick.Hurry = pick.Hurry
pick_of text raw_pick.Stop = pick.Stop
pick_of text (raw_pick.Deliver n) = pick.Deliver (number_of text n)
pick_of text (raw_pick.Recover v eid) = pick.Recover (record { ver = version_of text v; eid = number_of text eid })
pick_of text (raw_pick.Truncate v) = pick.Truncate (version_of text v)

abbrev pub calls_by : Calls → ℕ → PlanWhat
calls_by calls.Wait n = what.Wait n
calls_by calls.Next n = what.Next n
calls_by calls.Newest n = what.Newest n

-- an entry; without a number it is for one call
abbrev pub entry_of : List ℕ → RawEntry → PlanWhat
entry_of text (entry.Calls c n) = calls_by c (number_of_or 1 text n)
entry_of text (entry.One p) = what.One (pick_of text p)

-- the plan item of an `at`, and those of a list
abbrev pub at_of : List ℕ → Token → RawNode → RawPick → PlanItem
at_of text now n p = record { node = node_of text n; what = what.At (number_of text now) (pick_of text p) }

abbrev pub planned : List ℕ → RawNode → RawEntry → PlanItem
planned text n e = record { node = node_of text n; what = entry_of text e }

-- what is said once an item is read, where names of tables and programs are those of earlier ones
abbrev pub script_after : List ℕ → Script → Item → Script
script_after text s (Version n) = s
script_after text s (Setting name word n) = with_setting name (number_of text n) s
script_after text s (Policy word p) = record s { policy = p }
script_after text s (Table n) = record s { tables = s.tables ++ token_bytes text n ∷ [] }
script_after text s (First word table index value) = record s { firsts = s.firsts ++ first_of text s.tables table index value ∷ [] }
script_after text s (Program word name body) = record s { progs = s.progs ++ prog_of text s.tables name body ∷ [] }
script_after text s (Client word n txns) = record s { clients = s.clients ++ map (txn_of text (prog_names s)) txns ∷ [] }
script_after text s (Net n) = record s { net = net_of text n }
script_after text s (At word now n p) = record s { plan = s.plan ++ at_of text now n p ∷ [] }
script_after text s (Entries word n es) = record s { plan = s.plan ++ map (planned text n) es }
script_after text s (End word) = s

abbrev pub stated_after : Stated → Item → Stated
stated_after s (Setting name word n) = with_stated name s
stated_after s (Policy word p) = record s { policy = true }
stated_after s i = s

abbrev pub after : List ℕ → Said → Item → Said
after text s i = record { script = script_after text s.script i; stated = stated_after s.stated i }

-- what is said behind all items
abbrev pub after_all : List ℕ → Said → List Item → Said
after_all text s [] = s
after_all text s (i ∷ is) = after_all text (after text s i) is

-- what the items say
abbrev pub script_of : List ℕ → List Item → Script
script_of text is = (after_all text nothing_said is).script

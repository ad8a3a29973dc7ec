-- The grammar of scripts. Its rules stand in the order of their use, the smallest first.
use Rattle.std.specs.Prelude.{true, false, List, [], ◌∷◌, ◌++◌, Option, Some, None, if◌then◌else◌}
use Rattle.txn_lang.specs.declared.tree.BinOp.TheVariants as op
use Rattle.txn_text.specs.declared.kinds.Token.{Token}
use Rattle.txn_parse.specs.declared.symbols.Symbol.{Symbol}
use Rattle.txn_parse.specs.declared.symbols.Symbol.TheVariants as symbol
use Rattle.txn_parse.specs.Symbols.{is}
use Rattle.script.specs.declared.setup.Policy.{Policy as PolicyValue}
use Rattle.script.specs.declared.setup.Policy.TheVariants as policy
use Rattle.script.specs.declared.items.SettingName.{SettingName}
use Rattle.script.specs.declared.items.SettingName.TheVariants as setting_name
use Rattle.script.specs.declared.items.NodeKind.{NodeKind}
use Rattle.script.specs.declared.items.NodeKind.TheVariants as node_kind
use Rattle.script.specs.declared.items.Calls.{Calls}
use Rattle.script.specs.declared.items.Calls.TheVariants as calls
use Rattle.script.specs.declared.items.Signed.{Signed}
use Rattle.script.specs.declared.items.RawNode.{RawNode}
use Rattle.script.specs.declared.items.RawVersion.{RawVersion}
use Rattle.script.specs.declared.items.RawPick.{RawPick}
use Rattle.script.specs.declared.items.RawPick.TheVariants as picks
use Rattle.script.specs.declared.items.RawEntry.{RawEntry}
use Rattle.script.specs.declared.items.RawEntry.TheVariants as entries
use Rattle.script.specs.declared.items.RawTxn.{RawTxn}
use Rattle.script.specs.declared.items.RawNet.{RawNet}
use Rattle.script.specs.declared.items.RawNet.TheVariants as nets
use Rattle.script.specs.Items.{Item, Version, Setting, Policy, Table, First, Program, Client, Net, At, Entries, End}
use Rattle.script.specs.Rules.{Rule, One, Block, Nothing, Both, Into, Either, Many, Listed}

-- the one symbol, which is no operator
abbrev pub only : Symbol → Symbol → Option (Unit {0})
only wanted s = if is s wanted then Some tt else None

-- that token
unfoldable pub token : Symbol → Rule Token
token wanted = Into (λ x. x.1) (One (only wanted) wanted)

-- a word in front, and what follows it
abbrev pub behind : {A : Type 0} → Symbol → Rule A → Rule A
behind word r = Into (λ x. x.1) (Both (token word) r)

abbrev pub optional : {A : Type 0} → Rule A → Rule (Option A)
optional r = Either (Into Some r) (Nothing None)

abbrev pub number : Rule Token
number = token symbol.Number

abbrev pub name : Rule Token
name = token symbol.Name

-- "morty" NUMBER
unfoldable pub version : Rule Item
version = Into Version (behind symbol.Morty number)

abbrev pub setting_of : Symbol → Option SettingName
setting_of symbol.Replicas = Some setting_name.Replicas
setting_of symbol.Wardens = Some setting_name.Wardens
setting_of symbol.Tries = Some setting_name.Tries
setting_of symbol.Execs = Some setting_name.Execs
setting_of symbol.Gap = Some setting_name.Gap
setting_of symbol.Turns = Some setting_name.Turns
setting_of s = None

abbrev pub policy_of : Symbol → Option PolicyValue
policy_of symbol.Rewind = Some policy.Rewind
policy_of symbol.Abort = Some policy.Abort
policy_of s = None

-- ("replicas"|"wardens"|"tries"|"execs"|"gap"|"turns") NUMBER
unfoldable pub number_setting : Rule Item
number_setting = Into (λ x. Setting x.0.0 x.0.1 x.1) (Both (One setting_of symbol.Replicas) number)

-- "policy" ("rewind"|"abort")
unfoldable pub policy_setting : Rule Item
policy_setting = Into (λ x. Policy x.0 x.1.0) (Both (token symbol.Policy) (One policy_of symbol.Rewind))

unfoldable pub setting : Rule Item
setting = Either number_setting policy_setting

abbrev pub minus_of : Symbol → Option (Unit {0})
minus_of (symbol.Op op.Sub) = Some tt
minus_of s = None

-- ["-"] NUMBER
unfoldable pub signed : Rule Signed
signed =
    Either (Into (λ x. record { minus = true; digits = x.1 }) (Both (One minus_of (symbol.Op op.Sub)) number))
    (Into (λ t. record { minus = false; digits = t }) number)

-- "table" NAME
unfoldable pub table : Rule Item
table = Into Table (behind symbol.Table name)

-- "first" NAME "[" signed "]" signed
unfoldable pub first : Rule Item
first =
    Into (λ x. First x.0 x.1.0 x.1.1.0 x.1.1.1)
    (Both (token symbol.First) (Both name (Both (behind symbol.OpenIndex signed) (behind symbol.CloseIndex signed))))

unfoldable pub store : Rule Item
store = Either table first

-- "program" NAME block
unfoldable pub program : Rule Item
program = Into (λ x. Program x.0 x.1.0 x.1.1) (Both (token symbol.Program) (Both name Block))

-- NAME ["at" NUMBER]
unfoldable pub txn : Rule RawTxn
txn = Into (λ x. record { name = x.0; at = x.1 }) (Both name (optional (behind symbol.At number)))

-- [txn (";" txn)* [";"]] "}"
unfoldable pub txns : Rule (List RawTxn)
txns = Either (Into (λ x. []) (token symbol.CloseBlock)) (Listed txn)

-- "client" NUMBER "{" txns
unfoldable pub client : Rule Item
client = Into (λ x. Client x.0 x.1.0 x.1.1) (Both (token symbol.Client) (Both number (behind symbol.OpenBlock txns)))

-- "seeded" NUMBER "late" NUMBER "repeat" NUMBER "hurry" NUMBER
unfoldable pub seeded : Rule RawNet
seeded =
    Into (λ x. nets.Seeded x.0 x.1.0 x.1.1.0 x.1.1.1)
    (Both (behind symbol.Seeded number) (Both (behind symbol.Late number) (Both (behind symbol.Repeat number) (behind symbol.Hurry number))))

abbrev pub net_of : Symbol → Option RawNet
net_of symbol.Fair = Some nets.Fair
net_of symbol.Listed = Some nets.Listed
net_of s = None

-- "net" ("fair" | "listed" | seeded)
unfoldable pub net : Rule Item
net = Into Net (behind symbol.Net (Either (Into (λ x. x.0) (One net_of symbol.Fair)) seeded))

abbrev pub node_of : Symbol → Option NodeKind
node_of symbol.Client = Some node_kind.Client
node_of symbol.Replica = Some node_kind.Replica
node_of symbol.Warden = Some node_kind.Warden
node_of s = None

-- ("client"|"replica"|"warden") NUMBER
unfoldable pub node : Rule RawNode
node = Into (λ x. record { kind = x.0.0; number = x.1 }) (Both (One node_of symbol.Client) number)

-- NUMBER "." NUMBER
unfoldable pub version_name : Rule RawVersion
version_name = Into (λ x. record { ts = x.0; client = x.1 }) (Both number (behind symbol.Dot number))

abbrev pub plain_pick_of : Symbol → Option RawPick
plain_pick_of symbol.Go = Some picks.Go
plain_pick_of symbol.Hurry = Some picks.Hurry
plain_pick_of symbol.Stop = Some picks.Stop
plain_pick_of s = None

-- "deliver" NUMBER | "recover" NUMBER "." NUMBER NUMBER | "truncate" NUMBER "." NUMBER
unfoldable pub named_pick : Rule RawPick
named_pick =
    Either (Into picks.Deliver (behind symbol.Deliver number))
    (Either (Into (λ x. picks.Recover x.0 x.1) (Both (behind symbol.Recover version_name) number))
    (Into picks.Truncate (behind symbol.Truncate version_name)))

-- "go" | "hurry" | "stop", or one with a name
unfoldable pub pick : Rule RawPick
pick = Either (Into (λ x. x.0) (One plain_pick_of symbol.Go)) named_pick

-- "at" NUMBER node pick
unfoldable pub at_item : Rule Item
at_item = Into (λ x. At x.0 x.1.0 x.1.1.0 x.1.1.1) (Both (token symbol.At) (Both number (Both node pick)))

abbrev pub calls_of : Symbol → Option Calls
calls_of symbol.Wait = Some calls.Wait
calls_of symbol.Next = Some calls.Next
calls_of symbol.Newest = Some calls.Newest
calls_of s = None

-- ("wait"|"next"|"newest") [NUMBER] | pick
unfoldable pub entry : Rule RawEntry
entry =
    Either (Into (λ x. entries.Calls x.0.0 x.1) (Both (One calls_of symbol.Wait) (optional number)))
    (Into entries.One pick)

-- "list" node "{" entry (";" entry)* [";"] "}"
unfoldable pub list_item : Rule Item
list_item = Into (λ x. Entries x.0 x.1.0 x.1.1) (Both (token symbol.List) (Both node (behind symbol.OpenBlock (Listed entry))))

unfoldable pub plan : Rule Item
plan = Either at_item list_item

-- "end"
unfoldable pub end_item : Rule Item
end_item = Into End (token symbol.End)

abbrev pub single : Item → List Item
single i = i ∷ []

abbrev pub as_list : Option Item → List Item
as_list None = []
as_list (Some i) = i ∷ []

-- items, and further ones behind them
abbrev pub then_items : Rule (List Item) → Rule (List Item) → Rule (List Item)
then_items r q = Into (λ x. x.0 ++ x.1) (Both r q)

-- version setting* store* program* client* [net] plan* "end"
unfoldable pub script : Rule (List Item)
script =
    then_items (Into single version) (then_items (Many setting) (then_items (Many store) (then_items (Many program) (then_items (Many client)
    (then_items (Into as_list (optional net)) (then_items (Many plan) (Into single end_item)))))))

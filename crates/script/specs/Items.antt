-- The items of a script as its grammar tells them: those of the program, with the tree of a program's block.
use Rattle.std.specs.Prelude.{List, map}
use Rattle.txn_text.specs.declared.kinds.Token.{Token}
use Rattle.txn_parse.specs.Tree.{Commands, commands}
use Rattle.script.specs.declared.setup.Policy.{Policy as PolicyValue}
use Rattle.script.specs.declared.items.SettingName.{SettingName}
use Rattle.script.specs.declared.items.Signed.{Signed}
use Rattle.script.specs.declared.items.RawNode.{RawNode}
use Rattle.script.specs.declared.items.RawPick.{RawPick}
use Rattle.script.specs.declared.items.RawEntry.{RawEntry}
use Rattle.script.specs.declared.items.RawTxn.{RawTxn}
use Rattle.script.specs.declared.items.RawNet.{RawNet}
use Rattle.script.specs.declared.items.RawItem.{RawItem}
use Rattle.script.specs.declared.items.RawItem.TheVariants as raw

pub data Item : Type 0 where
  Version : (number : Token) → Item
  Setting : (name : SettingName) (word number : Token) → Item
  Policy : (word : Token) (policy : PolicyValue) → Item
  Table : (name : Token) → Item
  First : (word table : Token) (index value : Signed) → Item
  Program : (word name : Token) (body : Commands) → Item
  Client : (word number : Token) (txns : List RawTxn) → Item
  Net : (net : RawNet) → Item
  At : (word now : Token) (node : RawNode) (pick : RawPick) → Item
  Entries : (word : Token) (node : RawNode) (entries : List RawEntry) → Item
  End : (word : Token) → Item

abbrev pub item : RawItem → Item
item (raw.Version n) = Version n
item (raw.Setting name word n) = Setting name word n
item (raw.Policy word p) = Policy word p
item (raw.Table name) = Table name
item (raw.First word table index value) = First word table index value
item (raw.Program word name prog) = Program word name (commands prog.body)
item (raw.Client word n txns) = Client word n txns
item (raw.Net net) = Net net
item (raw.At word now node pick) = At word now node pick
item (raw.List word node entries) = Entries word node entries
item (raw.End word) = End word

abbrev pub items : List RawItem → List Item
items rs = map item rs

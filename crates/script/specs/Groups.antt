-- Items of one kind, one after another.
use Rattle.std.specs.Prelude.{ℕ, List, [], ◌++◌, Ok, Err}
use Rattle.txn_parse.specs.Reading.{Found, Reader, ◌>>=◌}
use Rattle.script.specs.declared.reading.Group.{Group}
use Rattle.script.specs.declared.reading.Group.TheVariants as group
use Rattle.script.specs.Items.{Item}
use Rattle.script.specs.Rules.{Rule, Into, Many, read}
use Rattle.script.specs.Grammar.{version, setting, store, program, client, net, plan, end_item, single, as_list, optional}

-- the rule of a group's items
abbrev pub rule_of : Group → Rule Item
rule_of group.Settings = setting
rule_of group.Stores = store
rule_of group.Programs = program
rule_of group.Clients = client
rule_of group.Plans = plan

-- further items behind those that are there
abbrev pub joined : List Item → Found (List Item) → Found (List Item)
joined front (Ok r) = Ok (front ++ r.0, r.1)
joined front (Err f) = Err f

-- a script's items, one group behind the other
unfoldable pub script_by : ℕ → Reader (List Item)
script_by at ls = do
  opened ← joined [] (read (Into single version) at ls)
  set ← joined opened.0 (read (Many (rule_of group.Settings)) at opened.1)
  stored ← joined set.0 (read (Many (rule_of group.Stores)) at set.1)
  programmed ← joined stored.0 (read (Many (rule_of group.Programs)) at stored.1)
  shared ← joined programmed.0 (read (Many (rule_of group.Clients)) at programmed.1)
  linked ← joined shared.0 (read (Into as_list (optional net)) at shared.1)
  planned ← joined linked.0 (read (Many (rule_of group.Plans)) at linked.1)
  joined planned.0 (read (Into single end_item) at planned.1)

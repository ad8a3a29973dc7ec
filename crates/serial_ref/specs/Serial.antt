-- What a serial run over a setup begins with, and the programs that it runs.
use Rattle.std.specs.Prelude.{List, [], map, unwrap_or}
use Rattle.std.specs.Option.{option_map, option_and_then}
use Rattle.std.specs.List.{slice_get}
use Rattle.txn_lang.specs.Keys.{Entry, entry}
use Rattle.txn_lang.specs.Program.{Program}
use Rattle.script.specs.declared.setup.First.{First}
use Rattle.script.specs.declared.setup.Setup.{Setup}
use Rattle.serial_rows.specs.Rows.{Item}
use Rattle.serial_ref.specs.declared.item.SerialItem.{SerialItem}
use Rattle.serial_ref.specs.SerialItem.{txn_named}

abbrev pub first_entry : First → Entry
first_entry f = entry f.key f.value

-- the first values in text order
abbrev pub firsts_of : Setup → List Entry
firsts_of s = map first_entry s.firsts

-- the empty program
abbrev pub no_program : Program
no_program = record { names = []; body = record { stmts = [] } }

-- the program of the transaction that an item names; an item that names none has the empty program
abbrev pub prog_named : Setup → SerialItem → Program
prog_named s i = unwrap_or (option_map (λ p. p.prog) (option_and_then (λ t. slice_get s.progs t.prog) (txn_named s i))) no_program

-- the program that an item names, at its version
abbrev pub item_named : Setup → SerialItem → Item
item_named s i = record { ver = i.ver; txn = i.txn; program = prog_named s i }

abbrev pub items_of : Setup → List SerialItem → List Item
items_of s items = map (item_named s) items

-- The programs so far were run, and the table stands for the map that they left.
use Rattle.std.proofs.Common.{◌≡◌, ◌++◌, List, map, drop}
use Rattle.txn_lang.specs.Keys.{Entry}
use Rattle.txn_lang.specs.Program.{last_map}
use Rattle.serial_rows.specs.Rows.{programs_of, item_of}
use Rattle.serial_rows.specs.Tables.{IsTable}
use Rattle.serial_rows.proofs.OneMore.{rows_left}
use Rattle.serial_rows.proofs.serial.serial_rows.Given as goal

abbrev pub invariant-loop-item : goal.invariant-loop-item
invariant-loop-item l =
    let all = map item_of l.items in
    let rest = map item_of (drop l.item-index l.items) in
    (m : List Entry)
    × (l.commits ++ rows_left m rest ≡ rows_left l.firsts all)
    × (last_map m (programs_of rest) ≡ last_map l.firsts (programs_of all))
    × IsTable m l.table

-- The last entries are in the table, and the others are left.
use Rattle.std.proofs.Common.{◌≡◌, ◌++◌, List, length}
use Rattle.txn_lang.specs.Keys.{Entry}
use Rattle.serial_rows.specs.Tables.{IsTable}
use Rattle.serial_rows.proofs.table.Table.new.Given as goal

abbrev pub invariant-firsts : goal.invariant-firsts
invariant-firsts l = (done : List Entry) × (l.firsts ≡ l.rest ++ done) × IsTable done l.table

abbrev pub decreases-firsts : goal.decreases-firsts
decreases-firsts l = length l.rest

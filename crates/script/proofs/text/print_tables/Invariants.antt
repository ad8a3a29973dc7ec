-- The lines that are left stand behind those that were printed.
use Rattle.std.proofs.Common.{◌≡◌, map, drop}
use Rattle.txn_print.specs.Printer.{lines_printed}
use Rattle.script.specs.Canonical.{table_line}
use Rattle.script.proofs.text.print_tables.Given as goal

abbrev pub invariant-loop-table : goal.invariant-loop-table
invariant-loop-table l = lines_printed l.out (map table_line (drop l.table-index l.tables)) ≡ lines_printed l.initial.out (map table_line l.tables)

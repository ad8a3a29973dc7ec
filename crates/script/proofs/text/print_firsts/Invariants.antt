-- The lines that are left stand behind those that were printed.
use Rattle.std.proofs.Common.{◌≡◌, map, drop}
use Rattle.txn_print.specs.Printer.{lines_printed}
use Rattle.script.specs.Canonical.{first_line}
use Rattle.script.proofs.text.print_firsts.Given as goal

abbrev pub invariant-loop-first : goal.invariant-loop-first
invariant-loop-first l = lines_printed l.out (map (first_line l.tables) (drop l.first-index l.firsts)) ≡ lines_printed l.initial.out (map (first_line l.tables) l.firsts)

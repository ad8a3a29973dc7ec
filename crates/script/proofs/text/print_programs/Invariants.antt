-- The lines that are left stand behind those that were printed.
use Rattle.std.proofs.Common.{◌≡◌, map, drop}
use Rattle.txn_print.specs.Printer.{lines_printed}
use Rattle.script.specs.Meaning.{named_of}
use Rattle.script.specs.Canonical.{program_line}
use Rattle.script.proofs.text.print_programs.Given as goal

abbrev pub invariant-loop-p : goal.invariant-loop-p
invariant-loop-p l = lines_printed l.out (map (program_line l.tables) (map named_of (drop l.p-index l.progs))) ≡ lines_printed l.initial.out (map (program_line l.tables) (map named_of l.progs))

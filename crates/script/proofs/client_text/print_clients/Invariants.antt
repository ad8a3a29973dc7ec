-- The clients that are left stand behind those that were printed.
use Rattle.std.proofs.Common.{◌≡◌, ◌+◌, drop}
use Rattle.txn_print.specs.Printer.{lines_printed}
use Rattle.script.specs.Canonical.{client_lines, program_names}
use Rattle.script.proofs.client_text.print_clients.Given as goal

abbrev pub invariant-loop-i : goal.invariant-loop-i
invariant-loop-i l =
    lines_printed l.out (client_lines (program_names l.progs) (l.i + 1) (drop l.i l.clients)) ≡ lines_printed l.initial.out (client_lines (program_names l.progs) 1 l.clients)

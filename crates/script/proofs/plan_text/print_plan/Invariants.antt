-- The lines that are left stand behind those that were printed.
use Rattle.std.proofs.Common.{◌≡◌, map, drop}
use Rattle.txn_print.specs.Printer.{lines_printed}
use Rattle.script.specs.Canonical.{plan_line}
use Rattle.script.proofs.plan_text.print_plan.Given as goal

abbrev pub invariant-loop-item : goal.invariant-loop-item
invariant-loop-item l = lines_printed l.out (map plan_line (drop l.item-index l.items)) ≡ lines_printed l.initial.out (map plan_line l.items)

-- The transactions that are left stand behind those that were printed.
use Rattle.std.proofs.Common.{◌≡◌, drop}
use Rattle.txn_print.specs.Printer.{printed}
use Rattle.script.specs.Canonical.{more_txns, program_names}
use Rattle.script.proofs.client_text.print_txns.Given as goal

abbrev pub invariant-loop-txn : goal.invariant-loop-txn
invariant-loop-txn l =
    printed l.out (more_txns (program_names l.progs) (drop l.txn-index l.rest)) ≡ printed l.initial.out (more_txns (program_names l.progs) l.rest)

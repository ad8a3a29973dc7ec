-- What is left to be printed stands behind what was.
use Rattle.std.proofs.Common.{◌≡◌, drop}
use Rattle.txn_lang.specs.Tree.{commands_of}
use Rattle.txn_print.specs.Printer.{printed}
use Rattle.txn_print.specs.Canonical.{first_pieces}
use Rattle.txn_print.proofs.PrinterLemmas.{pieces_from}
use Rattle.txn_print.proofs.statements.+statements.Given as goal

abbrev pub invariant-print_block-loop-i : goal.invariant-print_block-loop-i
invariant-print_block-loop-i l =
    printed l.out (pieces_from l.tables l.locals l.i (commands_of (drop l.i l.stmt-items))) ≡ printed l.initial.out (first_pieces l.tables l.locals (commands_of l.stmt-items))

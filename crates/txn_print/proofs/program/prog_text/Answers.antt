use Rattle.std.proofs.Common.{[], true, ap, ◌∙◌}
use Rattle.txn_print.specs.declared.printer.Printer.{Printer}
use Rattle.txn_print.specs.Printer.{printed}
use Rattle.txn_print.specs.Canonical.{program_pieces}
use Rattle.txn_print.proofs.PrinterLemmas.{text_printed}
use Rattle.txn_print.proofs.program.prog_text.Goals as goal

pub returns : goal.returns
returns c =
    let pieces = program_pieces c.args.tables.now c.args.p.now in
    c.into_text.ensures ∙ ap (λ (p : Printer). p.text) (c.in_ok-print_block.ensures ∙ ap (λ (p : Printer). printed p pieces) c.new-out.ensures)
    ∙ text_printed (record { text = []; joined = true }) pieces

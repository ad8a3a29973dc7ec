use Rattle.script.specs.Canonical.{program_names}
use Rattle.script.proofs.TextLemmas.{client_printed}
use Rattle.script.proofs.client_text.print_client.Goals as goal

pub returns : goal.returns
returns c =
    client_printed c.end_line.result (program_names c.args.progs.now) c.args.number c.args.txns.now c.args.out.now _ _ _ _ _ _
    c.in_ok-word.ensures c.in_ok-number.ensures c.in_ok-symbol.ensures c.in_ok-print_txns.ensures c.in_ok-symbol-2.ensures c.end_line.ensures

use Rattle.std.proofs.Common.{◌≡◌, sym, ◌∙◌, subst}
use Rattle.std.specs.Prelude.{OnOk}
use Rattle.std.proofs.lemmas.Result.{on_ok_weaker}
use Rattle.txn_print.specs.Printer.{printed}
use Rattle.script.specs.declared.setup.Net.{Net}
use Rattle.script.specs.Canonical.{net_line}
use Rattle.script.proofs.TextLemmas.{net_printed}
use Rattle.script.proofs.text.print_net.Goals as goal

pub returns-in_ok-print_counted-in-Seeded-3 : goal.returns-in_ok-print_counted-in-Seeded-3
returns-in_ok-print_counted-in-Seeded-3 c =
    let P : Net → Type 0 = λ n. OnOk c.print_counted-in-Seeded-3.result (c.print_counted-in-Seeded-3.new.out ≡ printed c.args.out.now (net_line n)) in
    subst P (sym c.in-Seeded.is)
    (on_ok_weaker c.print_counted-in-Seeded-3.result
    (λ e. e ∙ net_printed c.args.out.now _ _ _ _ c.in-Seeded.seed c.in-Seeded.late c.in-Seeded.repeat c.in-Seeded.hurry _ _ _ c.from.ensures c.from-in-Seeded.ensures c.from-in-Seeded-2.ensures
    c.in_ok-word.ensures c.in_ok-print_counted-in-Seeded.ensures c.in_ok-print_counted-in-Seeded-2.ensures c.in_ok-print_counted-in-Seeded-3.ensures)
    c.print_counted-in-Seeded-3.ensures)

use Rattle.std.proofs.Common.{◌≡◌, ◌<◌, sym, subst, arith}
use Rattle.std.specs.Prelude.{OnOk}
use Rattle.txn_lang.specs.Tree.{Term, Bin, term}
use Rattle.txn_lang.specs.Limits.{level}
use Rattle.txn_lang.proofs.Trees.{term-Bin}
use Rattle.txn_print.specs.Printer.{printed}
use Rattle.txn_print.specs.Canonical.{term_pieces}
use Rattle.txn_print.proofs.PrinterLemmas.{bin_printed, operand_low}
use Rattle.txn_print.proofs.expressions.+expressions.Goals as goal

pub print_operand-returns-in_ok-print_expression : goal.print_operand-returns-in_ok-print_expression
print_operand-returns-in_ok-print_expression t c =
    let low : level (term c.args.e.now) < c.args.least = omega arith in
    operand_low c.symbol-then-level-least.result _ _ _ _ c.args.least (term c.args.e.now) _ low c.in_ok-symbol.ensures c.in_ok-print_expression.ensures c.symbol-then-level-least.ensures

pub print_expression-returns-in_ok-print_operator-in-Bin : goal.print_expression-returns-in_ok-print_operator-in-Bin
print_expression-returns-in_ok-print_operator-in-Bin t c =
    let x = c.get-in-Bin.result.now in
    let folded = term-Bin c.in-Bin.op x.0 x.1 in
    let bin : term c.args.e.now ≡ Bin c.in-Bin.op (term x.0) (term x.1) = cc in
    let P : Term → Type 0 = λ e. OnOk c.print_operand-in-Bin-2.result (c.print_operand-in-Bin-2.new.out ≡ printed c.args.out.now (term_pieces c.args.locals.now e)) in
    subst P (sym bin)
    (bin_printed c.print_operand-in-Bin-2.result c.args.locals.now c.in-Bin.op (term x.0) (term x.1) _ _ c.args.out.now _ _ _
    c.left_level.ensures c.operator_level.ensures c.in_ok-print_operand-in-Bin.ensures c.in_ok-print_operator-in-Bin.ensures c.print_operand-in-Bin-2.ensures)

use Rattle.std.proofs.Common.{◌≡◌, ◌<◌, ◌≤◌, length, sym, ap, ◌∙◌, subst, arith}
use Rattle.std.specs.Prelude.{OnOk, codes}
use Rattle.txn_lang.specs.Tree.{Command, Write, If, term, command, commands, commands_of}
use Rattle.txn_lang.proofs.Trees.{command-Write, command-If}
use Rattle.txn_print.specs.Piece.{Symbol}
use Rattle.txn_print.specs.Printer.{printed}
use Rattle.txn_print.specs.Canonical.{command_pieces, first_pieces}
use Rattle.txn_print.proofs.PrinterLemmas.{separator_at, separator_some, separator_none, one_printed, all_printed, enclosed_printed, write_printed, if_printed, else_printed}
use Rattle.txn_print.proofs.statements.+statements.Goals as goal
use Rattle.txn_print.proofs.statements.+statements.Goals.{print_block-then-i-gt0+in_ok-symbol-2, print_block-else-i-gt0}

pub print_else-returns : goal.print_else-returns
print_else-returns t c =
    else_printed c.print_block.result c.args.tables.now c.args.locals.now c.args.block.now.stmts c.args.out.now _ _
    (λ none. let full = c.is_empty.ensures.1 none in let not_so = c.if-is_empty.false in cc)
    c.in_ok-word.ensures c.print_block.ensures

pub print_statement-returns-in_ok-print_index-in-Write : goal.print_statement-returns-in_ok-print_index-in-Write
print_statement-returns-in_ok-print_index-in-Write t c =
    let folded = command-Write c.in-Write.table c.in-Write.index c.in-Write.e in
    let write : command c.args.stmt.now ≡ Write c.in-Write.table (term c.in-Write.index) (term c.in-Write.e) = cc in
    let P : Command → Type 0 = λ x. OnOk c.print_expression-in-Write.result (c.print_expression-in-Write.new.out ≡ printed c.args.out.now (command_pieces c.args.tables.now c.args.locals.now x)) in
    subst P (sym write)
    (write_printed c.print_expression-in-Write.result c.args.tables.now c.args.locals.now c.in-Write.table (term c.in-Write.index) (term c.in-Write.e) c.args.out.now _ _ _ _
    c.in_ok-word-in-Write.ensures c.in_ok-print_name-in-Write.ensures c.in_ok-print_index-in-Write.ensures c.print_expression-in-Write.ensures)

pub print_statement-returns-in_ok-print_block-in-If : goal.print_statement-returns-in_ok-print_block-in-If
print_statement-returns-in_ok-print_block-in-If t c =
    let folded = command-If c.in-If.e c.in-If.a c.in-If.b in
    let chooses : command c.args.stmt.now ≡ If (term c.in-If.e) (commands c.in-If.a) (commands c.in-If.b) = cc in
    let P : Command → Type 0 = λ x. OnOk c.print_else.result (c.print_else.new.out ≡ printed c.args.out.now (command_pieces c.args.tables.now c.args.locals.now x)) in
    subst P (sym chooses)
    (if_printed c.print_else.result c.args.tables.now c.args.locals.now (term c.in-If.e) (commands c.in-If.a) (commands c.in-If.b) c.args.out.now _ _ _ _
    c.in_ok-word-in-If.ensures c.in_ok-print_expression-in-If.ensures c.in_ok-print_block-in-If.ensures c.print_else.ensures)

pub print_block-loop-i-preserved : goal.print_block-loop-i-preserved
print_block-loop-i-preserved t c =
    let separated : c.if-i-gt0.out ≡ printed c.loop-i.out (separator_at c.loop-i.i) =
    elim c.if-i-gt0.branch [
      | print_block-then-i-gt0+in_ok-symbol-2 w ↦ w.out-is ∙ w.in_ok-symbol-2.ensures ∙ ap (printed c.loop-i.out) (sym (separator_some c.loop-i.i (omega (arith, w.if-i-gt0.true))))
      | print_block-else-i-gt0 w ↦ w.out-is ∙ ap (printed c.loop-i.out) (sym (separator_none c.loop-i.i (omega (arith, w.if-i-gt0.false))))
    ] in
    let within : c.loop-i.i < length c.as_slice-stmt-items.result.now = omega arith in
    one_printed c.args.tables.now c.args.locals.now c.as_slice-stmt-items.result.now c.loop-i.i c.stmt-item.result _ _ _ within c.stmt-item.is separated c.in_ok-print_statement.ensures
    ∙ c.loop-i.invariant

pub print_block-returns : goal.print_block-returns
print_block-returns t c =
    let over : length c.as_slice-stmt-items.result.now ≤ c.loop-i.i = omega arith in
    let all : c.loop-i.out ≡ printed c.symbol.new.self (first_pieces c.args.tables.now c.args.locals.now (commands_of c.args.block.now.stmts)) =
    sym (all_printed c.args.tables.now c.args.locals.now c.as_slice-stmt-items.result.now c.loop-i.i c.loop-i.out over) ∙ c.loop-i.invariant
    ∙ ap (λ l. printed c.symbol.new.self (first_pieces c.args.tables.now c.args.locals.now (commands_of l))) c.as_slice-stmt-items.ensures in
    enclosed_printed c.symbol-2.result c.args.out.now _ _ _ (Symbol (codes "{")) (first_pieces c.args.tables.now c.args.locals.now (commands_of c.args.block.now.stmts)) (Symbol (codes "}")) c.in_ok-symbol.ensures all c.symbol-2.ensures

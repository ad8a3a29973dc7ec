use Rattle.std.proofs.Common.{◌+◌, sym, ap, ◌∙◌, drop}
use Rattle.std.specs.Prelude.{find}
use Rattle.txn_parse.specs.Tree.{command, commands, commands_of}
use Rattle.txn_parse.specs.Binding.{is_unknown, tables_in, tables_of}
use Rattle.txn_parse.proofs.NamesLemmas.{found_first, found_second}
use Rattle.txn_parse.proofs.RawTrees.{command-If, first_behind}
use Rattle.txn_parse.proofs.names.+tables.Goals as goal

pub unknown_table_in-returns-in-Some : goal.unknown_table_in-returns-in-Some
unknown_table_in-returns-in-Some t c =
    let p = is_unknown c.args.text.now c.args.tables.now in
    sym (ap (λ s. find p (tables_in (command s))) c.in-If.is ∙ ap (λ s. find p (tables_in s)) (command-If c.in-If.field-0 c.in-If.a c.in-If.b)
    ∙ found_first p (tables_of (commands c.in-If.a)) (tables_of (commands c.in-If.b)) c.in-Some.table c.in-Some.ensures)

pub unknown_table_in-returns-in-None : goal.unknown_table_in-returns-in-None
unknown_table_in-returns-in-None t c =
    let p = is_unknown c.args.text.now c.args.tables.now in
    c.unknown_table-in-None.ensures
    ∙ sym (ap (λ s. find p (tables_in (command s))) c.in-If.is ∙ ap (λ s. find p (tables_in s)) (command-If c.in-If.field-0 c.in-If.a c.in-If.b)
    ∙ found_second p (tables_of (commands c.in-If.a)) (tables_of (commands c.in-If.b)) c.in-None.ensures)

pub unknown_table-returns-in-Some : goal.unknown_table-returns-in-Some
unknown_table-returns-in-Some t c =
    let p = is_unknown c.args.text.now c.args.tables.now in
    let items = c.as_slice-stmt-items.result.now in
    let x = c.stmt-item.result in
    let rest = commands_of (drop (c.loop-stmt.stmt-index + 1) items) in
    sym (sym c.loop-stmt.invariant ∙ ap (λ s. find p (tables_of s)) (first_behind items c.loop-stmt.stmt-index x c.loop-stmt-test.true c.stmt-item.is) ∙ found_first p (tables_in (command x)) (tables_of rest) c.in-Some.table c.in-Some.ensures)

pub unknown_table-loop-stmt-preserved : goal.unknown_table-loop-stmt-preserved
unknown_table-loop-stmt-preserved t c =
    let p = is_unknown c.args.text.now c.args.tables.now in
    let items = c.as_slice-stmt-items.result.now in
    let x = c.stmt-item.result in
    let rest = commands_of (drop (c.loop-stmt.stmt-index + 1) items) in
    sym (ap (λ s. find p (tables_of s)) (first_behind items c.loop-stmt.stmt-index x c.loop-stmt-test.true c.stmt-item.is) ∙ found_second p (tables_in (command x)) (tables_of rest) c.in-None.ensures) ∙ c.loop-stmt.invariant

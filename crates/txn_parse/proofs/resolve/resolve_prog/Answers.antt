use Rattle.std.proofs.lemmas.Result.{err_from_is_err_and}
use Rattle.txn_lang.specs.Program.{Program}
use Rattle.txn_parse.specs.Tree.{commands}
use Rattle.txn_parse.specs.Binding.{table_checks}
use Rattle.txn_parse.proofs.NamesLemmas.{first_fault, later_fault}
use Rattle.txn_parse.proofs.resolve.resolve_prog.Goals as goal

pub returns-in_err-check_tables-clause-fault : goal.returns-in_err-check_tables-clause-fault
returns-in_err-check_tables-clause-fault c =
    let p = err_from_is_err_and c.from_residual.result c.from_residual.ensures.1 in
    let f = c.in_err-check_tables.field-0.0 in
    rw (p.1, p.2) (first_fault (Unit {0}) Program (table_checks c.args.text.now c.args.tables.now (commands c.args.raw.now.body)) _ f c.in_err-check_tables.ensures)

pub returns-clause-fault : goal.returns-clause-fault
returns-clause-fault c =
    later_fault Program (table_checks c.args.text.now c.args.tables.now (commands c.args.raw.now.body)) _ c.bind_prog.result c.in_ok-check_tables.ensures c.bind_prog.ensures.fault

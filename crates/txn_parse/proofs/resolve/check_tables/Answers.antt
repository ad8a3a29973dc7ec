use Rattle.std.proofs.Common.{sym, ap, ◌∙◌}
use Rattle.std.specs.Option.{option_map}
use Rattle.txn_text.specs.declared.kinds.Token.{Token}
use Rattle.txn_text.specs.declared.faults.FaultKind.TheVariants.{UnknownTable}
use Rattle.txn_text.specs.declared.faults.TextFault.TheVariants.{At}
use Rattle.txn_parse.specs.Tree.{commands}
use Rattle.txn_parse.specs.Binding.{tables_of}
use Rattle.txn_parse.proofs.NamesLemmas.{unknown_failing}
use Rattle.txn_parse.proofs.resolve.check_tables.Goals as goal

pub returns-in-Some : goal.returns-in-Some
returns-in-Some c =
    unknown_failing UnknownTable c.args.text.now c.args.tables.now (tables_of (commands c.args.raw.now.body)) ∙ ap (option_map (λ (t : Token). At t.line UnknownTable)) (sym c.in-Some.ensures)

pub returns-in-None : goal.returns-in-None
returns-in-None c =
    unknown_failing UnknownTable c.args.text.now c.args.tables.now (tables_of (commands c.args.raw.now.body)) ∙ ap (option_map (λ (t : Token). At t.line UnknownTable)) (sym c.in-None.ensures)

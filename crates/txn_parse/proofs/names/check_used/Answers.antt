use Rattle.std.proofs.Common.{sym, ap, ◌∙◌}
use Rattle.std.specs.Option.{option_map}
use Rattle.txn_text.specs.declared.kinds.Token.{Token}
use Rattle.txn_text.specs.declared.faults.FaultKind.TheVariants.{UnknownLocal}
use Rattle.txn_text.specs.declared.faults.TextFault.TheVariants.{At}
use Rattle.txn_parse.specs.Tree.{term}
use Rattle.txn_parse.specs.Binding.{locals_of}
use Rattle.txn_parse.proofs.NamesLemmas.{unknown_failing}
use Rattle.txn_parse.proofs.names.check_used.Goals as goal

pub returns-in-Some : goal.returns-in-Some
returns-in-Some c =
    unknown_failing UnknownLocal c.args.text.now c.args.names.now (locals_of (term c.args.e.now)) ∙ ap (option_map (λ (t : Token). At t.line UnknownLocal)) (sym c.in-Some.ensures)

pub returns-in-None : goal.returns-in-None
returns-in-None c =
    unknown_failing UnknownLocal c.args.text.now c.args.names.now (locals_of (term c.args.e.now)) ∙ ap (option_map (λ (t : Token). At t.line UnknownLocal)) (sym c.in-None.ensures)

use Rattle.std.proofs.Common.{◌∙◌}
use Rattle.txn_parse.proofs.MarkLemmas.{not_single}
use Rattle.txn_parse.proofs.symbols.mark_in.Goals as goal

pub returns-else-text-eq1 : goal.returns-else-text-eq1
returns-else-text-eq1 c = c.symbol_in.ensures ∙ not_single c.args.text.now (λ one. c.if-text-eq1.false one)

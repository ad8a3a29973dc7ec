use Rattle.txn_parse.proofs.Laws.{found_is_derived, derived_is_found, has_one_tree, fault_is_first}
use Rattle.txn_parse.proofs.program.grammar_laws.Goals as goal

pub returns : goal.returns
returns c = record { found = found_is_derived; derived = derived_is_found; one_tree = has_one_tree; first = fault_is_first }

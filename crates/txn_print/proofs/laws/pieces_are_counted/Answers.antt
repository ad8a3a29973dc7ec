use Rattle.txn_print.proofs.CountLemmas.{pieces_are_counted}
use Rattle.txn_print.proofs.laws.pieces_are_counted.Goals as goal

pub returns : goal.returns
returns c = pieces_are_counted

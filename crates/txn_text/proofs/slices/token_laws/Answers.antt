use Rattle.txn_text.proofs.TokensLieInOrder.{tokens_lie_in_order}
use Rattle.txn_text.proofs.slices.token_laws.Goals as goal

pub returns : goal.returns
returns c = tokens_lie_in_order

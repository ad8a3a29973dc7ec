use Rattle.txn_lang.proofs.Growing.{grows}
use Rattle.txn_lang.proofs.laws.replay_grows.Goals as goal

pub returns : goal.returns
returns c = grows

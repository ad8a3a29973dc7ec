use Rattle.txn_lang.proofs.Asking.{asks_once}
use Rattle.txn_lang.proofs.laws.replay_asks_once.Goals as goal

pub returns : goal.returns
returns c = asks_once

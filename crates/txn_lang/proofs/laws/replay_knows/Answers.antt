use Rattle.txn_lang.proofs.Knowing.{knows_its_own}
use Rattle.txn_lang.proofs.laws.replay_knows.Goals as goal

pub returns : goal.returns
returns c = knows_its_own

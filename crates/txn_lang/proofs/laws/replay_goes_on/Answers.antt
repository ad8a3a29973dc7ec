use Rattle.txn_lang.proofs.Resuming.{goes_on_with_answer}
use Rattle.txn_lang.proofs.laws.replay_goes_on.Goals as goal

pub returns : goal.returns
returns c = goes_on_with_answer

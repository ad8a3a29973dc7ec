use Rattle.txn_lang.proofs.Taking.{takes_answers}
use Rattle.txn_lang.proofs.laws.replay_takes_answers.Goals as goal

pub returns : goal.returns
returns c = takes_answers

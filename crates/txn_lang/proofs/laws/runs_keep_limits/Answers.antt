use Rattle.txn_lang.proofs.Bounded.{keeps_limits}
use Rattle.txn_lang.proofs.laws.runs_keep_limits.Goals as goal

pub returns : goal.returns
returns c = keeps_limits

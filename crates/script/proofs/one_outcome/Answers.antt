use Rattle.script.proofs.OneOutcome.{one_outcome}
use Rattle.script.proofs.one_outcome.Goals as goal

pub returns : goal.returns
returns c = one_outcome

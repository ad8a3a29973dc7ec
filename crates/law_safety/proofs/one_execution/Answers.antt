use Rattle.law_safety.proofs.OneExecution as proved
use Rattle.law_safety.proofs.one_execution.Goals as goal

pub returns : goal.returns
returns c = proved.one_execution

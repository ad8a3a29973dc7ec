use Rattle.protocol_runs.proofs.Computed as proved
use Rattle.protocol_runs.proofs.re_execution.Goals as goal

pub returns : goal.returns
returns c = proved.computes.re_execution

use Rattle.protocol_runs.proofs.Computed as proved
use Rattle.protocol_runs.proofs.first_run.Goals as goal

pub returns : goal.returns
returns c = proved.computes.first_run

use Rattle.protocol_runs.proofs.Computed as proved
use Rattle.protocol_runs.proofs.small_runs.Goals as goal

pub returns : goal.returns
returns c = proved.computes.small_runs

use Rattle.protocol_runs.proofs.Computed as proved
use Rattle.protocol_runs.proofs.truncated.Goals as goal

pub returns : goal.returns
returns c = proved.computes.truncated

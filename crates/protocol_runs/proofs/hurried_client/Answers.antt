use Rattle.protocol_runs.proofs.Computed as proved
use Rattle.protocol_runs.proofs.hurried_client.Goals as goal

pub returns : goal.returns
returns c = proved.computes.hurried_client

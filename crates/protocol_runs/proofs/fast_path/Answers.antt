use Rattle.protocol_runs.proofs.Computed as proved
use Rattle.protocol_runs.proofs.fast_path.Goals as goal

pub returns : goal.returns
returns c = proved.computes.fast_path

use Rattle.protocol_runs.proofs.Computed as proved
use Rattle.protocol_runs.proofs.three_views.Goals as goal

pub returns : goal.returns
returns c = proved.computes.three_views

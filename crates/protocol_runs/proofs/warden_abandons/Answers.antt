use Rattle.protocol_runs.proofs.Computed as proved
use Rattle.protocol_runs.proofs.warden_abandons.Goals as goal

pub returns : goal.returns
returns c = proved.computes.warden_abandons

use Rattle.protocol_runs.proofs.Computed as proved
use Rattle.protocol_runs.proofs.missed_write.Goals as goal

pub returns : goal.returns
returns c = proved.computes.missed_write

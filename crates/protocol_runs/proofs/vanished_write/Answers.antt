use Rattle.protocol_runs.proofs.Computed as proved
use Rattle.protocol_runs.proofs.vanished_write.Goals as goal

pub returns : goal.returns
returns c = proved.computes.vanished_write

use Rattle.protocol_runs.proofs.Computed as proved
use Rattle.protocol_runs.proofs.dropped_reader.Goals as goal

pub returns : goal.returns
returns c = proved.computes.dropped_reader

use Rattle.protocol_runs.proofs.Computed as proved
use Rattle.protocol_runs.proofs.final_vote.Goals as goal

pub returns : goal.returns
returns c = proved.computes.final_vote

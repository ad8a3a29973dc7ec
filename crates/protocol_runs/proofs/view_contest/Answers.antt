use Rattle.protocol_runs.proofs.Computed as proved
use Rattle.protocol_runs.proofs.view_contest.Goals as goal

pub returns : goal.returns
returns c = proved.computes.view_contest

use Rattle.protocol_runs.proofs.QuietRun as proved
use Rattle.protocol_runs.proofs.quiet_run.Goals as goal

pub returns : goal.returns
returns c = proved.quiet_run

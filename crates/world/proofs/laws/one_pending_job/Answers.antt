use Rattle.world.proofs.PendingJobs as proved
use Rattle.world.proofs.laws.one_pending_job.Goals as goal

pub returns : goal.returns
returns c = proved.one_pending_job

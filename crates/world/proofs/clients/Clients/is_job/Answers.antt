use Rattle.std.proofs.Common.{◌≡◌, Some, subst}
use Rattle.std.specs.Prelude.{◌↔◌, IsTrue}
use Rattle.world.proofs.ClientJobs.{the_job}
use Rattle.world.proofs.clients.Clients.is_job.Goals as goal

pub returns : goal.returns
returns c =
    subst (λ o. IsTrue c.is_job.result ↔ (o ≡ Some c.args.job.now))
    (the_job c.args.self.now c.args.number c.index.result.now c.requires.from_one c.requires.up_to_count c.index.ensures) c.is_job.ensures

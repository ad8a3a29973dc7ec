use Rattle.std.proofs.Common.{◌≡◌, subst}
use Rattle.std.specs.Prelude.{IfOk}
use Rattle.std.proofs.lemmas.Result.{IfOk-weaker}
use Rattle.world.specs.Clients.{given, IsClient}
use Rattle.world.proofs.Placed.{node_at}
use Rattle.world.proofs.ClientJobs.{the_job}
use Rattle.world.proofs.clients.Clients.job.Goals as goal

pub returns-clause-value : goal.returns-clause-value
returns-clause-value c =
    subst (λ x. IfOk c.job.result (λ o. o ≡ x))
    (the_job c.args.self.now c.args.number c.index.result.now c.requires.from_one c.requires.up_to_count c.index.ensures)
    c.job.ensures.value

pub returns-clause-pending : goal.returns-clause-pending
returns-clause-pending c = IfOk-weaker c.job.result _ _ (λ o f. λ l states are.
    let n = c.args.number in
    f (given l n) (states n)
    (node_at (IsClient l) states c.args.self.now.clients.items n c.index.result.now c.requires.from_one c.requires.up_to_count c.index.ensures are.each))
    c.job.ensures.some

pub returns-clause-fits : goal.returns-clause-fits
returns-clause-fits c = IfOk-weaker c.job.result _ _ (λ o f. λ l states are.
    let n = c.args.number in
    f (given l n) (states n)
    (node_at (IsClient l) states c.args.self.now.clients.items n c.index.result.now c.requires.from_one c.requires.up_to_count c.index.ensures are.each))
    c.job.ensures.fits

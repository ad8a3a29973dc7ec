use Rattle.std.proofs.Common.{◌∙◌, ap}
use Rattle.std.specs.Prelude.{is_some}
use Rattle.world.specs.Clients.{given, IsClient}
use Rattle.world.proofs.Placed.{node_at}
use Rattle.world.proofs.ClientJobs.{the_job}
use Rattle.world.proofs.clients.Clients.has_job.Goals as goal

pub returns-clause-told : goal.returns-clause-told
returns-clause-told c =
    c.has_job.ensures.told ∙ ap is_some (the_job c.args.self.now c.args.number c.index.result.now c.requires.from_one c.requires.up_to_count c.index.ensures)

pub returns-clause-pending : goal.returns-clause-pending
returns-clause-pending c = λ l states are.
    let n = c.args.number in
    c.has_job.ensures.pending (given l n) (states n)
    (node_at (IsClient l) states c.args.self.now.clients.items n c.index.result.now c.requires.from_one c.requires.up_to_count c.index.ensures are.each)

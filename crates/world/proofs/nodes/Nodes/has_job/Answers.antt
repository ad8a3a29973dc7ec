use Rattle.world.proofs.nodes.Nodes.has_job.Goals as goal

pub returns-clause-pending : goal.returns-clause-pending
returns-clause-pending c = λ l w are. c.has_job.ensures.pending l w.client are.clients

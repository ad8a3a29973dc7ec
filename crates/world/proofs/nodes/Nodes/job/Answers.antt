use Rattle.std.proofs.lemmas.Result.{IfOk-weaker}
use Rattle.world.proofs.nodes.Nodes.job.Goals as goal

pub returns-clause-pending : goal.returns-clause-pending
returns-clause-pending c = IfOk-weaker c.job.result _ _ (λ o f. λ l w are. f l w.client are.clients) c.job.ensures.pending

pub returns-clause-fits : goal.returns-clause-fits
returns-clause-fits c = IfOk-weaker c.job.result _ _ (λ o f. λ l w are. f l w.client are.clients) c.job.ensures.fits

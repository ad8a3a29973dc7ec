use Rattle.node_future.proofs.SetOfNodes.{AllGiven-before, AllGiven-ready, on_pending}
use Rattle.node_future.proofs.set.NodeSetFuture.poll.Goals as goal

pub returns-in-Some-clause-value : goal.returns-in-Some-clause-value
returns-in-Some-clause-value g c = AllGiven-ready _ _ c.in-Some.outs c.advance.ensures c.in-Some.ensures

pub returns-in-None-clause-same : goal.returns-in-None-clause-same
returns-in-None-clause-same g c = on_pending c.yield_now.result _ (λ outs given. AllGiven-before _ _ outs c.advance.ensures given)

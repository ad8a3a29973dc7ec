use Rattle.world.proofs.nodes.Nodes.current.Goals as goal

pub returns : goal.returns
returns c = λ l w are. c.current.ensures l w.client are.clients

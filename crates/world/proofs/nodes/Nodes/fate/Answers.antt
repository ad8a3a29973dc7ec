use Rattle.world.proofs.nodes.Nodes.fate.Goals as goal

pub returns : goal.returns
returns c = λ l w are. c.fate.ensures l w.client are.clients

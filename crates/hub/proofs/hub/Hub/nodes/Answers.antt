use Rattle.std.proofs.Common.{◌∙◌}
use Rattle.hub.proofs.hub.Hub.nodes.Goals as goal

pub returns-clause-machine : goal.returns-clause-machine
returns-clause-machine g c = λ s is. c.nodes.ensures.count ∙ c.self.invariant.0.nodes_are ∙ c.self.invariant.5 s is

-- The choice is proposed.
use Rattle.coordinator.proofs.CountingLemmas.{proposes}
use Rattle.coordinator.proofs.memory.Memory.propose.Goals as goal

pub returns : goal.returns
returns c = λ g k content votes proposal accepts s is.
    proposes g k c.args.self.now c.put_proposal.new.self content votes proposal accepts c.args.choice c.in_ok-content.content c.in_ok-sent.sent s is
    (c.in_ok-content.ensures g k content votes proposal accepts s is) c.put_proposal.ensures c.in_ok-sent.ensures

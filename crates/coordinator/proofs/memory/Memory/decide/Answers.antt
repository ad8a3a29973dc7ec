-- The decision goes to all, and is concluded.
use Rattle.coordinator.proofs.CountingLemmas.{decides}
use Rattle.coordinator.proofs.memory.Memory.decide.Goals as goal

pub returns : goal.returns
returns c = λ g k content votes proposal accepts s is.
    decides g k c.args.self.now c.conclude.new.self content c.args.choice c.in_ok-content.content c.in_ok-sent.sent c.in_ok-out.out s
    (c.in_ok-content.ensures g k content votes proposal accepts s is) c.in_ok-sent.ensures (c.in_ok-out.ensures g k content votes proposal accepts s is)

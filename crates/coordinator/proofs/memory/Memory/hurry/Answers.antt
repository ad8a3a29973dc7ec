-- What is proposed is what the votes so far say.
use Rattle.std.proofs.Common.{subst}
use Rattle.protocol.specs.Words.{Choice}
use Rattle.protocol.specs.Client.Counting.{propose}
use Rattle.coordinator.specs.Memory.{Takes}
use Rattle.coordinator.proofs.memory.Memory.hurry.Goals as goal

pub returns : goal.returns
returns c = λ g k content votes proposal accepts s is.
    subst (λ (d : Choice). Takes g (propose k content votes d) c.propose.new.self c.in_ok-sent.sent) (c.hurried-choice.ensures g k content votes proposal accepts s is)
    (c.in_ok-sent.ensures g k content votes proposal accepts s is)

-- The tally is that of the ballot.
use Rattle.std.proofs.Common.{◌∙◌}
use Rattle.coordinator.proofs.CountingLemmas.{hurried_there, not_elsewhere}
use Rattle.coordinator.proofs.memory.Memory.hurried.Goals as goal

pub returns-in-Prepared : goal.returns-in-Prepared
returns-in-Prepared c = λ g k content votes proposal accepts s is.
    c.hurry.ensures ∙ hurried_there g k c.args.self.now content votes proposal accepts c.in-Prepared.ballot s is c.in-Prepared.is

pub returns-in_default : goal.returns-in_default
returns-in_default c = λ g k content votes proposal accepts s is. absurd (not_elsewhere g k c.args.self.now content votes proposal accepts s is c.in_default.not-Prepared)

-- The content is that of the ballot.
use Rattle.std.proofs.Common.{◌∙◌}
use Rattle.coordinator.proofs.CountingLemmas.{content_there, not_elsewhere}
use Rattle.coordinator.proofs.memory.Memory.prepared_content.Goals as goal

pub returns-in_ok-content-in-Prepared : goal.returns-in_ok-content-in-Prepared
returns-in_ok-content-in-Prepared c = λ g k content votes proposal accepts s is.
    c.in_ok-content-in-Prepared.ensures ∙ content_there g k c.args.self.now content votes proposal accepts c.in-Prepared.ballot c.args.choice s is c.in-Prepared.is

pub returns-in_default : goal.returns-in_default
returns-in_default c = λ g k content votes proposal accepts s is. absurd (not_elsewhere g k c.args.self.now content votes proposal accepts s is c.in_default.not-Prepared)

-- What follows is what the definitions say.
use Rattle.std.proofs.Common.{ap, sym, subst}
use Rattle.protocol.specs.Words.{Choice, ToCommit}
use Rattle.protocol.specs.Client.Attempts.{is_between}
use Rattle.protocol.specs.Client.Deciding.{conclude}
use Rattle.coordinator.specs.Memory.{Takes}
use Rattle.coordinator.specs.declared.memory.Memory.{Memory}
use Rattle.coordinator.proofs.DecidingLemmas.{concludes_commit}
use Rattle.coordinator.proofs.memory.Memory.conclude.Goals as goal

pub returns-in-Commit : goal.returns-in-Commit
returns-in-Commit c = λ g k content votes proposal accepts s runs.
    subst (λ (d : Choice). Takes g (conclude g.rules k d c.args.sent) c.end.new.self c.args.sent) (sym c.in-Commit.is)
    (subst (λ (m : Memory). Takes g (conclude g.rules k ToCommit c.args.sent) m c.args.sent) (sym c.end.ensures)
    (concludes_commit g k c.args.self.now c.args.sent s (ap is_between runs)))

pub returns-in_ok-out-in-Abandon : goal.returns-in_ok-out-in-Abandon
returns-in_ok-out-in-Abandon c = λ g k content votes proposal accepts s runs.
    subst (λ (d : Choice). Takes g (conclude g.rules k d c.args.sent) c.abandon.new.self c.in_ok-out-in-Abandon.out) (sym c.in-Abandon.is)
    (c.in_ok-out-in-Abandon.ensures g k content votes proposal accepts s runs)

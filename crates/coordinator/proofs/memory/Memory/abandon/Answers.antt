-- The next execution begins, or the attempt ends.
use Rattle.std.proofs.Common.{◌∙◌, ap, sym, subst}
use Rattle.protocol.specs.Words.{Abandon}
use Rattle.protocol.specs.Client.Attempts.{is_between}
use Rattle.protocol.specs.Client.Deciding.{conclude, noted}
use Rattle.coordinator.specs.Memory.{Takes}
use Rattle.coordinator.specs.declared.memory.Memory.{Memory}
use Rattle.coordinator.proofs.DecidingLemmas.{concludes_abort, concludes_next, stands_noted, both_true}
use Rattle.coordinator.proofs.memory.Memory.abandon.Goals as goal

pub returns-then-not-goes_on : goal.returns-then-not-goes_on
returns-then-not-goes_on c = λ g k content votes proposal accepts s runs.
    subst (λ (m : Memory). Takes g (conclude g.rules k Abandon c.args.sent) m c.args.sent) (sym c.end.ensures)
    (concludes_abort g k c.args.self.now c.args.sent s (ap is_between runs) (sym (c.goes_on.ensures g k s) ∙ c.if-not-goes_on.true))

pub returns : goal.returns
returns c = λ g k content votes proposal accepts s runs.
    let goes = sym (c.goes_on.ensures g k s) ∙ c.if-not-goes_on.false in
    concludes_next g k c.next_execution.new.self c.args.sent c.in_ok-out.out goes
    (c.in_ok-out.ensures g (noted k Abandon) content votes proposal accepts (stands_noted g k c.args.self.now Abandon s) runs (both_true _ _ goes))

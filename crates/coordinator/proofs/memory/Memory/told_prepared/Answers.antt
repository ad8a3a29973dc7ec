-- A warden's decision on the current execution.
use Rattle.std.proofs.Common.{◌∙◌, sym, subst}
use Rattle.protocol.specs.Client.Deciding.{conclude}
use Rattle.coordinator.specs.Memory.{Takes}
use Rattle.coordinator.proofs.EnvelopeLemmas.{takes_not, takes_when}
use Rattle.coordinator.proofs.memory.Memory.told_prepared.Goals as goal

pub returns-then-not-is_told : goal.returns-then-not-is_told
returns-then-not-is_told c = λ g k content votes proposal accepts s is.
    takes_not g k c.args.self.now _ _ c.new.result s (sym (c.is_told.ensures g k s) ∙ c.if-not-is_told.true) c.new.ensures

pub returns : goal.returns
returns c = λ g k content votes proposal accepts s is.
    takes_when g k c.conclude.new.self _ _ c.in_ok-out.out (sym (c.is_told.ensures g k s) ∙ c.if-not-is_told.false)
    (subst (λ bs. Takes g (conclude g.rules k c.args.choice bs) c.conclude.new.self c.in_ok-out.out) c.new-2.ensures
    (c.in_ok-out.ensures g k content votes proposal accepts s is))

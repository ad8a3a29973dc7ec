-- The current version is too old.
use Rattle.std.proofs.Common.{◌∙◌, sym}
use Rattle.coordinator.proofs.EnvelopeLemmas.{takes_not, takes_when}
use Rattle.coordinator.proofs.memory.Memory.too_old.Goals as goal

pub returns-then-not-is_version : goal.returns-then-not-is_version
returns-then-not-is_version c = λ g k s way.
    takes_not g k c.args.self.now _ _ c.new.result s (sym (c.is_version.ensures g k s) ∙ c.if-not-is_version.true) c.new.ensures

pub returns : goal.returns
returns c = λ g k s way.
    takes_when g k c.give_up.new.self _ _ c.in_ok-out.out (sym (c.is_version.ensures g k s) ∙ c.if-not-is_version.false) (c.in_ok-out.ensures g k s way)

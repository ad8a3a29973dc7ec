-- The order of versions.
use Rattle.morty_base.proofs.Orders.{before_total, same_version_tells, version_less}
use Rattle.morty_base.specs.Names.{same_version}
use Rattle.std.proofs.Common.{refl}
use Rattle.morty_base.proofs.laws.version_order.Goals as goal

pub returns-clause-order : goal.returns-clause-order
returns-clause-order c = before_total

pub returns-clause-same : goal.returns-clause-same
returns-clause-same c = same_version_tells

pub returns-clause-less : goal.returns-clause-less
returns-clause-less c = version_less

pub returns-clause-equal : goal.returns-clause-equal
unfolding same_version
returns-clause-equal c a b = refl

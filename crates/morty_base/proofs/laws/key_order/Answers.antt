-- The order of keys.
use Rattle.morty_base.proofs.Orders.{key_before_total, same_key_tells, key_less}
use Rattle.morty_base.specs.Names.{same_key}
use Rattle.std.proofs.Common.{refl}
use Rattle.morty_base.proofs.laws.key_order.Goals as goal

pub returns-clause-order : goal.returns-clause-order
returns-clause-order c = key_before_total

pub returns-clause-same : goal.returns-clause-same
returns-clause-same c = same_key_tells

pub returns-clause-less : goal.returns-clause-less
returns-clause-less c = key_less

pub returns-clause-equal : goal.returns-clause-equal
unfolding same_key
returns-clause-equal c a b = refl

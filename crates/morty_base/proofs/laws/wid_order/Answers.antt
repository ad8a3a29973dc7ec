-- The order of write names.
use Rattle.morty_base.proofs.Orders.{wid_before_total, same_wid_tells, wid_less, wid_equal}
use Rattle.morty_base.proofs.laws.wid_order.Goals as goal

pub returns-clause-order : goal.returns-clause-order
returns-clause-order c = wid_before_total

pub returns-clause-same : goal.returns-clause-same
returns-clause-same c = same_wid_tells

pub returns-clause-less : goal.returns-clause-less
returns-clause-less c = wid_less

pub returns-clause-equal : goal.returns-clause-equal
returns-clause-equal c = wid_equal

-- The order of executions.
use Rattle.morty_base.proofs.Orders.{exec_before_total, same_exec_tells, exec_less}
use Rattle.morty_base.specs.Names.{same_exec}
use Rattle.std.proofs.Common.{refl}
use Rattle.morty_base.proofs.laws.exec_order.Goals as goal

pub returns-clause-order : goal.returns-clause-order
returns-clause-order c = exec_before_total

pub returns-clause-same : goal.returns-clause-same
returns-clause-same c = same_exec_tells

pub returns-clause-less : goal.returns-clause-less
returns-clause-less c = exec_less

pub returns-clause-equal : goal.returns-clause-equal
unfolding same_exec
returns-clause-equal c a b = refl

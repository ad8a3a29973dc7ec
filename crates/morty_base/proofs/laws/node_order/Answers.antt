-- The order of nodes.
use Rattle.std.proofs.Common.{refl}
use Rattle.morty_base.specs.declared.names.NodeId.TheVariants.{Client, Replica, Warden}
use Rattle.morty_base.specs.Names.{node_before, same_node}
use Rattle.morty_base.proofs.Orders.{node_before_total, same_node_tells, number_less}
use Rattle.morty_base.proofs.laws.node_order.Goals as goal

pub returns-clause-order : goal.returns-clause-order
returns-clause-order c = node_before_total

pub returns-clause-same : goal.returns-clause-same
returns-clause-same c = same_node_tells

pub returns-clause-less : goal.returns-clause-less
unfolding node_before
returns-clause-less c (Client a) (Client b) = number_less a b
returns-clause-less c (Client a) (Replica b) = refl
returns-clause-less c (Client a) (Warden b) = refl
returns-clause-less c (Replica a) (Client b) = refl
returns-clause-less c (Replica a) (Replica b) = number_less a b
returns-clause-less c (Replica a) (Warden b) = refl
returns-clause-less c (Warden a) (Client b) = refl
returns-clause-less c (Warden a) (Replica b) = refl
returns-clause-less c (Warden a) (Warden b) = number_less a b

pub returns-clause-equal : goal.returns-clause-equal
unfolding same_node
returns-clause-equal c (Client a) (Client b) = refl
returns-clause-equal c (Client a) (Replica b) = refl
returns-clause-equal c (Client a) (Warden b) = refl
returns-clause-equal c (Replica a) (Client b) = refl
returns-clause-equal c (Replica a) (Replica b) = refl
returns-clause-equal c (Replica a) (Warden b) = refl
returns-clause-equal c (Warden a) (Client b) = refl
returns-clause-equal c (Warden a) (Replica b) = refl
returns-clause-equal c (Warden a) (Warden b) = refl

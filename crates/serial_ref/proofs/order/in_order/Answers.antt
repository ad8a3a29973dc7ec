-- Sorted items are in order, so they rise just where their versions differ, and name what they named.
use Rattle.std.proofs.lemmas.List.Sorted.{All-permutation}
use Rattle.serial_ref.specs.SerialItem.{IsNamed}
use Rattle.serial_ref.proofs.OrderLemmas.{sorted_is_in_order, rises_where_they_differ}
use Rattle.serial_ref.proofs.order.in_order.Goals as goal

pub returns-clause-order : goal.returns-clause-order
returns-clause-order c =
    sorted_is_in_order c.args.items c.into_vec-items.result.items c.sort.new.self.items c.from_vec.result c.into_vec-items.ensures c.from_vec.ensures
    c.sort.ensures.permutation c.in_ok-sort.ensures.sorted

pub returns-clause-rising : goal.returns-clause-rising
returns-clause-rising c = rises_where_they_differ c.args.items c.from_vec.result (returns-clause-order c)

pub returns-clause-named : goal.returns-clause-named
returns-clause-named c = λ s named. All-permutation (IsNamed s) c.args.items c.from_vec.result (returns-clause-order c).same named

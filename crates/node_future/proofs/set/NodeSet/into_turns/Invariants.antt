use Rattle.std.proofs.Common.{◌≡◌, map}
use Rattle.node_future.proofs.set.NodeSet.into_turns.Given as goal

abbrev pub invariant-loop-node : goal.invariant-loop-node
invariant-loop-node g l = l.turns.items ≡ map (λ n. n.turns) l.yielded

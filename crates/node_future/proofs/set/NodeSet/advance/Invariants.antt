use Rattle.std.proofs.Common.{◌≡◌, length}
use Rattle.node_future.proofs.SetOfNodes.{ArePolledTo}
use Rattle.node_future.proofs.set.NodeSet.advance.Given as goal

abbrev pub invariant-loop-at : goal.invariant-loop-at
invariant-loop-at g l = record {
  count : length l.self-inside.nodes.items ≡ l.at-end;
  polled : ArePolledTo l.at l.initial.self-inside.nodes.items l.self-inside.nodes.items;
}

use Rattle.std.proofs.Common.{take}
use Rattle.node_future.specs.Outputs.{AllTold}
use Rattle.node_future.proofs.set.NodeSet.outputs.Given as goal

abbrev pub invariant-loop-node : goal.invariant-loop-node
invariant-loop-node g l = AllTold (take l.node-index l.node-items) l.outs

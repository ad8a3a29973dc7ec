use Rattle.std.proofs.Common.{◌≡◌, ◌++◌, ◌∷◌, [], sym, rules}
use Rattle.node_future.proofs.SetOfNodes.{AllTold-more}
use Rattle.node_future.proofs.set.NodeSet.outputs.Goals as goal

pub loop-node-preserved : goal.loop-node-preserved
loop-node-preserved g c =
    let pushed : c.push.new.self ≡ c.loop-node.outs ++ c.in_ok-out.out ∷ [] = search rules in
    AllTold-more _ _ _ c.loop-node.node-index c.node-item.result c.in_ok-out.out c.loop-node-test.true c.node-item.is c.loop-node.invariant
    (sym c.in_ok-out.ensures.out) c.in_ok-out.ensures.told pushed

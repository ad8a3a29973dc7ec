use Rattle.std.proofs.Common.{◌≡◌, ◌<◌, subst, length, rules, arith, length-set}
use Rattle.node_future.specs.Outputs.{ArePolled}
use Rattle.node_future.proofs.SetOfNodes.{ArePolledTo-none, ArePolledTo-more, ArePolledTo-all}
use Rattle.node_future.proofs.set.NodeSet.advance.Goals as goal

pub loop-at-init : goal.loop-at-init
loop-at-init g c = record { count = search rules; polled = ArePolledTo-none _ }

pub loop-at-preserved : goal.loop-at-preserved
loop-at-preserved g c = record {
  count = search (rules, length-set);
  polled =
      let within : c.loop-at.at < length c.loop-at.self-inside.nodes.items = search rules in
      ArePolledTo-more _ _ c.loop-at.at _ _ c.loop-at.invariant.polled within c.index_mut.ensures.value c.advance.ensures.polled;
}

pub returns : goal.returns
returns g c =
    let all : c.loop-at.at ≡ length c.loop-at.self-inside.nodes.items = omega (arith, c.loop-at.invariant.count, c.loop-at.auto.at-end, c.loop-at-test.false) in
    subst (λ ns. ArePolled ns c.loop-at.self-inside.nodes.items) c.self.view_is (ArePolledTo-all _ _ c.loop-at.at all c.loop-at.invariant.polled)

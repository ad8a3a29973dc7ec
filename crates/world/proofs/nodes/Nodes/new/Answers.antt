-- Each kind of nodes is as many as the plan has.
use Rattle.std.proofs.Common.{ap, length, map, ◌∙◌}
use Rattle.std.proofs.lemmas.List.{length-map}
use Rattle.coordinator.specs.Memory.{txn_in}
use Rattle.world.proofs.nodes.Nodes.new.Goals as goal

pub returns : goal.returns
returns c = λ l setup.
    let count = ap length setup.clients.clients ∙ length-map c.args.txns.now (map (txn_in l.programs)) in
    record {
      clients = c.in_ok-clients.ensures l setup.clients;
      replicas = c.in_ok-replicas.ensures l.plan setup.clients.replicas setup.firsts;
      wardens = c.in_ok-wardens.ensures l.plan setup.wardens setup.clients.replicas count;
    }

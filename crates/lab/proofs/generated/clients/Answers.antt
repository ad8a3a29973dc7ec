use Rattle.lab.proofs.TransferLemmas.{one_client}
use Rattle.lab.proofs.generated.clients.Goals as goal

pub loop-client-preserved : goal.loop-client-preserved
loop-client-preserved c =
    one_client c.args.size c.loop-client.client c.loop-client.clients c.push.new.self c.in_ok-txns.field-0 c.loop-client.invariant c.in_ok-txns.ensures c.in_ok-push.ensures.ok

use Rattle.lab.proofs.TransferLemmas.{one_account}
use Rattle.lab.proofs.generated.firsts.Goals as goal

pub loop-i-preserved : goal.loop-i-preserved
loop-i-preserved c = one_account c.loop-i.i c.loop-i.firsts c.push.new.self c.account.result c.loop-i.invariant c.account.ensures c.in_ok-push.ensures.ok

-- One execution more is recovered.
use Rattle.truncation.proofs.RecoveringLemmas.{does_more}
use Rattle.truncation.proofs.truncator.recover_named.Goals as goal

pub loop-x-preserved : goal.loop-x-preserved
loop-x-preserved c =
    does_more c.args.rec.now c.loop-x.rec c.recover_next.new.rec c.args.out.now c.loop-x.out c.recover_next.new.out c.args.named.now c.loop-x.x-index _
    c.loop-x-test.true c.loop-x.invariant c.in_ok-recover_next.ensures

use Rattle.std.proofs.Common.{◌<◌, length, arith}
use Rattle.protocol.specs.Words.{same_exec}
use Rattle.mv_index.proofs.Growth.{last_write_more}
use Rattle.mv_index.proofs.Filling.{fill_more}
use Rattle.mv_index.proofs.write_index.WriteIndex.fill.Goals as goal

pub loop-at-preserved : goal.loop-at-preserved
loop-at-preserved c = λ k x.
    let h : c.loop-at.at < length c.args.writes.now = omega arith in
    fill_more (same_exec x c.args.exec) _ _ _ _ _ _ (c.in_ok-set.ensures k x) (c.loop-at.invariant k x) (last_write_more c.args.exec c.args.sure k c.args.writes.now c.loop-at.at _ h)

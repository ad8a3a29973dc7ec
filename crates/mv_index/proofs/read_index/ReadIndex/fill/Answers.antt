use Rattle.std.proofs.Common.{◌<◌, length, get_or, arith}
use Rattle.protocol.specs.Words.{same_exec}
use Rattle.mv_index.specs.ReadIndex.{read_at}
use Rattle.mv_index.proofs.ReadIndexLemmas.{with_reads_more, counted_next}
use Rattle.mv_index.proofs.read_index.ReadIndex.fill.Goals as goal

pub loop-read-preserved : goal.loop-read-preserved
loop-read-preserved c = λ k x.
    let h : c.loop-read.read-index < length c.args.reads.now = omega arith in
    counted_next (same_exec x c.args.exec) k _ _ _ _ (get_or c.args.reads.now c.loop-read.read-index _)
    (c.in_ok-set.ensures k x) _ (c.loop-read.invariant k x) (with_reads_more k (read_at c.args.self.now k x) c.args.reads.now c.loop-read.read-index _ h)

use Rattle.std.proofs.Common.{◌<◌, length, arith}
use Rattle.mv_index.specs.ContentTable.{IsMissed, content_at}
use Rattle.mv_index.proofs.IndexedContents.{one_here, none_yet}
use Rattle.mv_index.proofs.content_table.ContentTable.are_missed.Goals as goal

pub returns-then-is_missed : goal.returns-then-is_missed
returns-then-is_missed c = λ s.
    let h : c.loop-read.read-index < length c.args.reads.now = omega arith in
    one_here (IsMissed (content_at c.args.self.now) c.args.ver) c.args.reads.now c.loop-read.read-index _ h (c.if-is_missed.ensures s)

pub loop-read-preserved : goal.loop-read-preserved
loop-read-preserved c = λ s.
    let h : c.loop-read.read-index < length c.args.reads.now = omega arith in
    none_yet (IsMissed (content_at c.args.self.now) c.args.ver) c.args.reads.now c.loop-read.read-index _ h (c.loop-read.invariant s) (c.if-is_missed.ensures s)

use Rattle.std.proofs.Common.{◌<◌, length, arith}
use Rattle.protocol.specs.Words.{Write}
use Rattle.mv_index.specs.ReadIndex.{read_at, IsReadPast}
use Rattle.mv_index.proofs.IndexedContents.{one_here, none_yet}
use Rattle.mv_index.proofs.content_table.ContentTable.misses.Goals as goal

pub returns-then-is_read_past : goal.returns-then-is_read_past
returns-then-is_read_past c =
    let h : c.loop-write.write-index < length c.args.writes.now = omega arith in
    one_here (λ (w : Write) t. IsReadPast c.args.ver (read_at c.args.self.now.reads w.key) t) c.args.writes.now c.loop-write.write-index _ h c.if-is_read_past.ensures

pub loop-write-preserved : goal.loop-write-preserved
loop-write-preserved c =
    let h : c.loop-write.write-index < length c.args.writes.now = omega arith in
    none_yet (λ (w : Write) t. IsReadPast c.args.ver (read_at c.args.self.now.reads w.key) t) c.args.writes.now c.loop-write.write-index _ h c.loop-write.invariant c.if-is_read_past.ensures

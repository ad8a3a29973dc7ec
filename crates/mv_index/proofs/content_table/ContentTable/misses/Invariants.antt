use Rattle.std.proofs.Common.{take, false}
use Rattle.protocol.specs.Words.{Write}
use Rattle.mv_index.specs.ContentTable.{IsOne}
use Rattle.mv_index.specs.ReadIndex.{read_at, IsReadPast}
use Rattle.mv_index.proofs.content_table.ContentTable.misses.Given as goal

abbrev pub invariant-loop-write : goal.invariant-loop-write
invariant-loop-write l = IsOne (λ (w : Write) t. IsReadPast l.ver (read_at l.self.reads w.key) t) (take l.write-index l.writes) false

use Rattle.std.proofs.Common.{take, false}
use Rattle.mv_index.specs.ContentTable.{IsIndexed, IsMissed, IsOne, content_at}
use Rattle.mv_index.proofs.content_table.ContentTable.are_missed.Given as goal

abbrev pub invariant-loop-read : goal.invariant-loop-read
invariant-loop-read l = IsIndexed l.self → IsOne (IsMissed (content_at l.self) l.ver) (take l.read-index l.reads) false

use Rattle.std.proofs.Common.{◌≡◌, cond, take}
use Rattle.protocol.specs.Words.{Exec, Key, same_exec}
use Rattle.mv_index.specs.ReadIndex.{with_reads, read_at}
use Rattle.mv_index.proofs.read_index.ReadIndex.fill.Given as goal

abbrev pub invariant-loop-read : goal.invariant-loop-read
invariant-loop-read l = (k : Key) (x : Exec) → read_at l.self k x
    ≡ cond (same_exec x l.exec) (with_reads k (read_at l.fn.self k x) (take l.read-index l.reads)) (read_at l.fn.self k x)

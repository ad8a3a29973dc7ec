use Rattle.std.proofs.Common.{◌≡◌, ◌&&◌, None, cond, take}
use Rattle.protocol.specs.Words.{Exec, Key, same_exec}
use Rattle.mv_index.specs.ReadIndex.{reads_key, read_at}
use Rattle.mv_index.proofs.read_index.ReadIndex.erase.Given as goal

abbrev pub invariant-loop-read : goal.invariant-loop-read
invariant-loop-read l = (k : Key) (x : Exec) → read_at l.self k x
    ≡ cond (same_exec x l.exec && reads_key k (take l.read-index l.reads)) None (read_at l.fn.self k x)

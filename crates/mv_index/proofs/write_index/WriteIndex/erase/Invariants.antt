use Rattle.std.proofs.Common.{◌≡◌, ◌&&◌, None, cond, take}
use Rattle.protocol.specs.Words.{Exec, Key, same_exec}
use Rattle.mv_index.specs.WriteIndex.{held_at}
use Rattle.protocol.specs.Replica.Votes.{writes_key}
use Rattle.mv_index.proofs.write_index.WriteIndex.erase.Given as goal

abbrev pub invariant-loop-write : goal.invariant-loop-write
invariant-loop-write l = (k : Key) (x : Exec) → held_at l.self k x
    ≡ cond (same_exec x l.exec && writes_key k (take l.write-index l.writes)) None (held_at l.fn.self k x)

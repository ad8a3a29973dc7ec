use Rattle.std.proofs.Common.{◌≡◌, cond, take}
use Rattle.std.specs.Option.{option_or}
use Rattle.protocol.specs.Words.{Exec, Key, same_exec}
use Rattle.protocol.specs.Replica.Held.{last_write}
use Rattle.mv_index.specs.WriteIndex.{held_at}
use Rattle.mv_index.proofs.write_index.WriteIndex.fill.Given as goal

abbrev pub invariant-loop-at : goal.invariant-loop-at
invariant-loop-at l = (k : Key) (x : Exec) → held_at l.self k x
    ≡ cond (same_exec x l.exec) (option_or (last_write l.exec l.sure 1 k (take l.at l.writes)) (held_at l.fn.self k x)) (held_at l.fn.self k x)

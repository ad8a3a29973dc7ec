use Rattle.std.proofs.Common.{take}
use Rattle.protocol.specs.Replica.Votes.{writes_key}
use Rattle.mv_index.specs.KeyList.{AreRising, Lists}
use Rattle.mv_index.proofs.touched.touch.Given as goal

abbrev pub invariant-loop-write : goal.invariant-loop-write
invariant-loop-write l = AreRising l.fn.touched.keys.items → Lists (λ k. writes_key k (take l.write-index l.writes)) l.fn.touched l.touched

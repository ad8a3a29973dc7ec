use Rattle.std.proofs.Common.{drop}
use Rattle.txn_lang.specs.Keys.{after_writes, HoldTheSame}
use Rattle.serial_runs.proofs.map.Map.with_writes.Given as goal

abbrev pub invariant-loop-write : goal.invariant-loop-write
invariant-loop-write l = HoldTheSame (after_writes (drop l.write-index l.writes) l.map) (after_writes l.writes l.fn.self)

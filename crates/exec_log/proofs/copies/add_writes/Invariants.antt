use Rattle.std.proofs.Common.{◌≡◌, ◌++◌, take}
use Rattle.exec_log.specs.Entries.{write_entries}
use Rattle.exec_log.proofs.copies.add_writes.Given as goal

abbrev pub invariant-loop-write : goal.invariant-loop-write
invariant-loop-write l = write_entries l.writes.items ≡ write_entries l.initial.writes.items ++ take l.write-index l.wrote

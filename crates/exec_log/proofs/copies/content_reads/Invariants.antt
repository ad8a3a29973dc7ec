use Rattle.std.proofs.Common.{◌≡◌, map, take}
use Rattle.exec_log.specs.Entries.{read_of}
use Rattle.exec_log.proofs.copies.content_reads.Given as goal

abbrev pub invariant-loop-read : goal.invariant-loop-read
invariant-loop-read l = l.copy ≡ map read_of (take l.read-index l.reads)

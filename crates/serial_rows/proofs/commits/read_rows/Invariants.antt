-- The reads so far have their rows.
use Rattle.std.proofs.Common.{◌≡◌, map, take}
use Rattle.serial_rows.specs.Rows.{read_row}
use Rattle.serial_rows.proofs.commits.read_rows.Given as goal

abbrev pub invariant-loop-read : goal.invariant-loop-read
invariant-loop-read l = l.rows ≡ map read_row (take l.read-index l.reads)

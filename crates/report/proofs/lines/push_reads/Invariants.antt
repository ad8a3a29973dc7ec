-- The lines so far were written.
use Rattle.std.proofs.Common.{◌≡◌, ◌++◌, take}
use Rattle.std.specs.Prelude.{flat_map}
use Rattle.report.specs.Text.{read_line}
use Rattle.report.proofs.lines.push_reads.Given as goal

abbrev pub invariant-loop-read : goal.invariant-loop-read
invariant-loop-read l = l.out ≡ l.initial.out ++ flat_map (read_line l.tables) (take l.read-index l.reads)

-- The rows so far were counted.
use Rattle.std.proofs.Common.{◌≡◌, take}
use Rattle.report.specs.Text.{left_count}
use Rattle.report.proofs.brief.left_count.Given as goal

abbrev pub invariant-loop-row : goal.invariant-loop-row
invariant-loop-row l = l.count ≡ left_count l.state (take l.row-index l.rows)

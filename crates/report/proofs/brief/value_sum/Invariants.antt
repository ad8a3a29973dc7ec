-- The sum of the rows so far, and how far from 0 it may be.
use Rattle.std.proofs.Common.{◌≡◌, ◌*◌, ◌^◌, take, pos, neg_ℤ, ◌≤ℤ◌}
use Rattle.report.specs.Text.{sum_of}
use Rattle.report.proofs.brief.value_sum.Given as goal

abbrev pub invariant-loop-row : goal.invariant-loop-row
invariant-loop-row l =
    (l.sum ≡ sum_of (take l.row-index l.rows)) × (neg_ℤ (pos (2 ^ 63 * l.row-index)) ≤ℤ l.sum) × (l.sum ≤ℤ pos (2 ^ 63 * l.row-index))

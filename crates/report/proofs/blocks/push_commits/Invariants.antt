-- The blocks so far were written.
use Rattle.std.proofs.Common.{◌≡◌, ◌++◌, take}
use Rattle.std.specs.Prelude.{flat_map}
use Rattle.report.specs.Text.{commit_block}
use Rattle.report.proofs.blocks.push_commits.Given as goal

abbrev pub invariant-loop-row : goal.invariant-loop-row
invariant-loop-row l = l.out ≡ l.initial.out ++ flat_map (commit_block l.tables) (take l.row-index l.rows)

-- What clients tell of a world, and what is reported by that.
use Rattle.std.specs.Prelude.{◌≡◌, ℕ, ◌+◌, List, map, length, Some}
use Rattle.std.specs.List.{slice_get}
use Rattle.report.specs.declared.rows.Rows.{Rows}
use Rattle.protocol.specs.World.State.{World, rules}
use Rattle.protocol.specs.World.Committed.{CommittedExec}
use Rattle.protocol_plans.specs.Scripted.{Scripted, plan_of}
use Rattle.world_rows.specs.Rows.{commit_row, left_rows, value_rows}
use Rattle.world_rows.specs.declared.left.Progress.{Progress}

-- what client c tells
abbrev pub progress_of : Scripted → World → ℕ → Progress
progress_of s w c = record { txns = length (rules (plan_of s) c).txns; begun = (w.client c).begun; fate = (w.client c).fate }

-- what each client tells, in order
pub record AreProgress (s : Scripted) (w : World) (gs : List Progress) : Type 0 where
  pub count : length gs ≡ length s.clients
  pub each : (i : ℕ) (g : Progress) → slice_get gs i ≡ Some g → g ≡ progress_of s w (i + 1)

-- what is reported where these executions are committed, and the events were so many
abbrev pub rows_with : Scripted → World → List CommittedExec → ℕ → Rows
rows_with s w cs n = record {
  commits = map commit_row cs;
  left = left_rows s w cs;
  values = value_rows s cs;
  events = n;
}

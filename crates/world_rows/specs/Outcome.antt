-- What is gathered of committed executions.
use Rattle.std.specs.Prelude.{◌≡◌, ℕ, cond, List, map, Option, Some, None, flat_map}
use Rattle.std.specs.List.{slice_get}
use Rattle.std.specs.Option.{option_to_list}
use Rattle.std.specs.BTreeMap as map
use Rattle.std.specs.BTreeSet as set
use Rattle.protocol.specs.Words.{Exec, Content, Envelope}
use Rattle.protocol.specs.declared.First2.{First2}
use Rattle.protocol.specs.World.Committed.{CommittedExec}
use Rattle.protocol_plans.specs.SerialOutcome.{first_map, map_of}
use Rattle.world_rows.specs.Rows.{commit_row}
use Rattle.world_rows.specs.Orders.{version_cmp, exec_cmp}
use Rattle.world_rows.specs.Notes.{content_in}
use Rattle.world_rows.specs.Values.{HasValues}
use Rattle.world_rows.specs.Left.{AreDone}
use Rattle.world_rows.specs.declared.notes.Try.{Try}
use Rattle.world_rows.specs.declared.notes.Notes.{Notes}
use Rattle.world_rows.specs.declared.outcome.Committed.{Committed}
use Rattle.world_rows.specs.declared.outcome.Outcome.{Outcome}

-- the record of the definitions
abbrev pub committed_of : Committed → CommittedExec
committed_of c = record { exec = c.exec; content = c.content; txn = c.txn; try = c.attempt }

-- an execution with a content, as one of a try
abbrev pub exec_of_try : Exec → Option Try → Option Content → Option CommittedExec
exec_of_try x None o = None
exec_of_try x (Some t) None = None
exec_of_try x (Some t) (Some k) = Some (record { exec = x; content = k; txn = t.txn; try = t.attempt })

-- the execution that an envelope prepares, where it is committed by the notes
abbrev pub row_at : Notes → List Envelope → Exec → ℕ → Option CommittedExec
row_at s mail x i = cond (set.contains exec_cmp s.committed x) (exec_of_try x (map.get version_cmp s.tries x.ver) (content_in (slice_get mail i))) None

-- the committed executions by the notes
abbrev pub rows_at : Notes → List Envelope → List CommittedExec
rows_at s mail = flat_map (λ e. option_to_list (row_at s mail e.0 e.1)) s.prepared.entries

-- the rows of these executions, their transactions, and the values that their writes leave
pub record HasOutcome (firsts : List First2) (cs : List CommittedExec) (o : Outcome) : Type 0 where
  pub commits : o.commits ≡ map commit_row cs
  pub done : AreDone cs o.done
  pub values : HasValues (map_of (first_map firsts) cs) o.values

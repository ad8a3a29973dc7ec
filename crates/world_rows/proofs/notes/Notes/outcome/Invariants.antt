use Rattle.std.proofs.Common.{◌≡◌, ◌++◌, List}
use Rattle.std.specs.Prelude.{flat_map}
use Rattle.std.specs.Option.{option_to_list}
use Rattle.std.specs.BTreeMap.{IsOrdered}
use Rattle.protocol.specs.World.Committed.{CommittedExec}
use Rattle.world_rows.specs.Orders.{exec_cmp}
use Rattle.world_rows.specs.Outcome.{HasOutcome, row_at, rows_at}
use Rattle.world_rows.proofs.notes.Notes.outcome.Given as goal

abbrev pub invariant-loop-exec : goal.invariant-loop-exec
invariant-loop-exec l = IsOrdered exec_cmp l.self.prepared
    × ((cs : List CommittedExec) × HasOutcome l.firsts cs l.outcome
    × (cs ++ flat_map (λ e. option_to_list (row_at l.self l.mail e.0 e.1)) l.exec-iterator ≡ rows_at l.self l.mail))

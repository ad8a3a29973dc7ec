-- The keys so far have their rows.
use Rattle.std.proofs.Common.{◌≡◌, map}
use Rattle.std.specs.Map.Iter.{deref}
use Rattle.serial_rows.proofs.TableLemmas.{value_row}
use Rattle.serial_rows.proofs.table.Table.rows.Given as goal

abbrev pub invariant-loop-key : goal.invariant-loop-key
invariant-loop-key l = l.rows ≡ map (value_row l.self.cells) (map deref l.yielded)

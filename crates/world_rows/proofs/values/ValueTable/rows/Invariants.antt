use Rattle.std.proofs.Common.{◌≡◌, ◌++◌}
use Rattle.std.specs.Prelude.{map}
use Rattle.std.specs.BTreeMap.{IsOrdered}
use Rattle.world_rows.specs.Orders.{key_cmp}
use Rattle.world_rows.proofs.SortedKeys.{shown}
use Rattle.world_rows.proofs.values.ValueTable.rows.Given as goal

abbrev pub invariant-loop-key : goal.invariant-loop-key
invariant-loop-key l = IsOrdered key_cmp l.self.values × (l.rows ++ map shown l.key-iterator ≡ map shown l.self.values.entries)

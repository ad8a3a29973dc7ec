use Rattle.std.proofs.Common.{◌≡◌, ◌++◌}
use Rattle.std.specs.Prelude.{flat_map}
use Rattle.protocol.specs.Lists.{upto}
use Rattle.world_rows.specs.Left.{left_at}
use Rattle.world_rows.proofs.left.add_client.Given as goal

abbrev pub invariant-loop-i : goal.invariant-loop-i
invariant-loop-i l = l.rows ≡ l.initial.rows ++ flat_map (left_at l.done l.progress l.client) (upto l.i)

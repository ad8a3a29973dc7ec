use Rattle.std.proofs.Common.{take}
use Rattle.protocol_plans.specs.SerialOutcome.{first_map}
use Rattle.world_rows.specs.Values.{HasValues}
use Rattle.world_rows.proofs.values.ValueTable.new.Given as goal

abbrev pub invariant-loop-first : goal.invariant-loop-first
invariant-loop-first l = HasValues (first_map (take l.first-index l.firsts)) l.values

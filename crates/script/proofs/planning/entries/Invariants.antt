use Rattle.std.proofs.Common.{◌≡◌, ◌++◌, drop, map}
use Rattle.txn_parse.specs.Binding.{first_failing}
use Rattle.script.specs.Building.{planned_at}
use Rattle.script.specs.Checks.{entries_checks}
use Rattle.script.proofs.planning.entries.Given as goal

abbrev pub invariant-loop-one : goal.invariant-loop-one
invariant-loop-one l = record {
  checks : first_failing (entries_checks l.text (drop l.one-index l.raw)) ≡ first_failing (entries_checks l.text l.raw);
  planned : l.plan ++ map (planned_at l.text l.node) (drop l.one-index l.raw) ≡ l.fn.plan ++ map (planned_at l.text l.node) l.raw;
}

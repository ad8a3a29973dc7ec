use Rattle.std.proofs.Common.{◌≡◌, map, length}
use Rattle.script_cli.specs.Runs.{rules_for}
use Rattle.script_cli.proofs.Slots.{begun_upto}
use Rattle.script_cli.proofs.begin.begin_all.Given as goal

abbrev pub invariant-loop-slot : goal.invariant-loop-slot
invariant-loop-slot g l = record {
  count : length l.links.items ≡ length l.fn.links.items;
  begun : map g.L.Link.state_of l.links.items ≡ begun_upto l.fn.setup l.slot (rules_for l.fn.setup).nodes (map g.L.Link.state_of l.fn.links.items);
}

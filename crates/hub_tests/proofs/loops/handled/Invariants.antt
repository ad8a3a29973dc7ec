use Rattle.std.proofs.Common.{Some, map}
use Rattle.runner.specs.WholeRun.{start_of}
use Rattle.hub_tests.proofs.loops.handled.Given as goal

abbrev pub ghosts-by_hand : goal.ghosts-by_hand
ghosts-by_hand g a = record { start = Some (start_of a.limit 99 (map g.L.Link.state_of a.links.items)) }

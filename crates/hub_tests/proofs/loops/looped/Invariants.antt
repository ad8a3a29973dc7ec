use Rattle.std.proofs.Common.{Some, map}
use Rattle.runner.specs.WholeRun.{start_of}
use Rattle.hub_tests.proofs.loops.looped.Given as goal

abbrev pub ghosts-by_loop : goal.ghosts-by_loop
ghosts-by_loop g a = record { start = Some (start_of a.limit 99 (map g.L.Link.state_of a.links.items)) }

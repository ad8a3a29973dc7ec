use Rattle.std.proofs.Common.{Some, map}
use Rattle.runner.specs.WholeRun.{start_of}
use Rattle.hub_tests.proofs.by_workers.worked.Given as goal

abbrev pub ghosts-by_workers : goal.ghosts-by_workers
ghosts-by_workers g a = record { start = Some (start_of a.limit 99 (map g.L.Link.state_of a.links.items)) }

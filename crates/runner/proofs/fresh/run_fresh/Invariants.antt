use Rattle.std.proofs.Common.{Some, map}
use Rattle.runner.specs.WholeRun.{start_of}
use Rattle.runner.proofs.fresh.run_fresh.Given as goal

abbrev pub ghosts-run_named : goal.ghosts-run_named
ghosts-run_named g a = record { start = Some (start_of a.origin.now a.turns (map g.L.Link.state_of a.links.items)) }

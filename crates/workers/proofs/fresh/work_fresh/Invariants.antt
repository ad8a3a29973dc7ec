use Rattle.std.proofs.Common.{Some, map}
use Rattle.runner.specs.WholeRun.{start_of}
use Rattle.workers.proofs.fresh.work_fresh.Given as goal

abbrev pub ghosts-work_named : goal.ghosts-work_named
ghosts-work_named g a = record { start = Some (start_of a.origin.now a.turns (map g.L.Link.state_of a.links.items)) }

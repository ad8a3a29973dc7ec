use Rattle.std.proofs.Common.{Some, map}
use Rattle.runner.specs.WholeRun.{start_of}
use Rattle.hub_tests.proofs.hubs.played.Given as goal

abbrev pub ghosts-play : goal.ghosts-play
ghosts-play g a = record { start = Some (start_of a.limit a.turns (map g.L.Link.state_of a.links.items)) }

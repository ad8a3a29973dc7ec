-- So many first values were taken.
use Rattle.std.proofs.Common.{◌≡◌, map, take}
use Rattle.script_plans.specs.Plans.{first_of}
use Rattle.world.proofs.setup.firsts.Given as goal

abbrev pub invariant-loop-first : goal.invariant-loop-first
invariant-loop-first l = l.firsts ≡ map first_of (take l.first-index l.first-items)

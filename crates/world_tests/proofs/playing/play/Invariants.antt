-- The world stays one of its origin.
use Rattle.world_tests.specs.Playing.{IsWorldOf}
use Rattle.world_tests.proofs.playing.play.Given as goal

abbrev pub invariant-loop-row : goal.invariant-loop-row
invariant-loop-row g l = IsWorldOf l.origin l.world

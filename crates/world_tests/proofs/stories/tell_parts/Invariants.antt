-- The world stays one of its origin.
use Rattle.world_tests.specs.Playing.{IsWorldOf}
use Rattle.world_tests.proofs.stories.tell_parts.Given as goal

abbrev pub invariant-loop-rows : goal.invariant-loop-rows
invariant-loop-rows g l = IsWorldOf l.origin l.world

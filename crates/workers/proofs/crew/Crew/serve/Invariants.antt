use Rattle.workers.proofs.crew.Crew.serve.Given as goal

abbrev pub invariant-loop-slot : goal.invariant-loop-slot
invariant-loop-slot g l = Unit {0}

abbrev pub invariant-loop-seat : goal.invariant-loop-seat
invariant-loop-seat g l = (goal.iterator-loop-seat g).can_next l.seat-iterator × (goal.iterator-loop-seat g).is_finite l.seat-iterator

use Rattle.workers.proofs.crew.fn.run_crew.scope.Given as goal

abbrev pub invariant-loop-own : goal.invariant-loop-own
invariant-loop-own g l = Unit {0}

-- So many clients told how far they came.
use Rattle.world.proofs.ProgressLemmas.{AreTold}
use Rattle.world.proofs.parts.Parts.progress.Given as goal

abbrev pub invariant-loop-i : goal.invariant-loop-i
invariant-loop-i l = AreTold l.self l.i l.all

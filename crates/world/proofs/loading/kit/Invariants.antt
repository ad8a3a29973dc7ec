-- The code of so many programs is there.
use Rattle.std.proofs.Common.{take}
use Rattle.world.proofs.LoadingLemmas.{AreLoaded}
use Rattle.world.proofs.loading.kit.Given as goal

abbrev pub invariant-loop-named : goal.invariant-loop-named
invariant-loop-named l = AreLoaded (take l.named-index l.named-items) l.codes

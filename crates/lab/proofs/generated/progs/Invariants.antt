-- The programs that are left stand behind those that were made.
use Rattle.std.proofs.Common.{◌≡◌, ◌+◌, ◌-◌, ◌++◌, map}
use Rattle.script.specs.Meaning.{named_of}
use Rattle.lab.specs.Draws.{generator, transfers}
use Rattle.lab.specs.Generated.{transfer_progs}
use Rattle.lab.proofs.generated.progs.Given as goal

abbrev pub invariant-loop-i : goal.invariant-loop-i
invariant-loop-i l = map named_of l.progs ++ transfer_progs (l.i + 1) (transfers (l.size - l.i) l.rng) ≡ transfer_progs 1 (transfers l.size (generator l.seed))

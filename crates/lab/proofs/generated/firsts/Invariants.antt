-- The first values of the accounts so far.
use Rattle.std.proofs.Common.{◌≡◌, map}
use Rattle.std.specs.List.{range_with_len}
use Rattle.lab.specs.Generated.{account}
use Rattle.lab.proofs.generated.firsts.Given as goal

abbrev pub invariant-loop-i : goal.invariant-loop-i
invariant-loop-i l = l.firsts ≡ map account (range_with_len 1 l.i)

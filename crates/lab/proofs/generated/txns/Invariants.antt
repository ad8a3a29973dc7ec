-- The client's transactions among the programs so far.
use Rattle.std.proofs.Common.{◌≡◌}
use Rattle.lab.specs.Generated.{txns_of}
use Rattle.lab.proofs.generated.txns.Given as goal

abbrev pub invariant-loop-i : goal.invariant-loop-i
invariant-loop-i l = l.txns ≡ txns_of l.i l.client

-- The clients so far.
use Rattle.std.proofs.Common.{◌≡◌, map}
use Rattle.std.specs.List.{range_with_len}
use Rattle.lab.specs.Generated.{txns_of}
use Rattle.lab.proofs.generated.clients.Given as goal

abbrev pub invariant-loop-client : goal.invariant-loop-client
invariant-loop-client l = l.clients ≡ map (txns_of l.size) (range_with_len 0 l.client)

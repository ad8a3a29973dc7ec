-- So many clients are there.
use Rattle.std.proofs.Common.{◌≡◌, length}
use Rattle.protocol.specs.Client.State.{fresh_client}
use Rattle.world.specs.Clients.{Loads, IsClient, IsPlanOf}
use Rattle.world.proofs.Placed.{Stand}
use Rattle.world.proofs.clients.Clients.new.Given as goal

abbrev pub invariant-loop-i : goal.invariant-loop-i
invariant-loop-i l = record {
  count : length l.clients.items ≡ l.i;
  each : (o : Loads) → IsPlanOf o l.rules l.txns → Stand (IsClient o) (λ c. fresh_client) l.clients.items;
}

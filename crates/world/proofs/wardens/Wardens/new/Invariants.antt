-- So many wardens are there.
use Rattle.std.proofs.Common.{◌≡◌, length}
use Rattle.protocol.specs.Warden.State.{fresh_warden}
use Rattle.protocol.specs.World.State.{Plan}
use Rattle.world.specs.Wardens.{IsWarden}
use Rattle.world.proofs.Placed.{Stand}
use Rattle.world.proofs.wardens.Wardens.new.Given as goal

abbrev pub invariant-loop-i : goal.invariant-loop-i
invariant-loop-i l = record {
  count : length l.wardens.items ≡ l.i;
  each : (p : Plan) → p.wardens ≡ l.fn.count → p.replicas ≡ l.replicas → length p.clients ≡ l.clients → Stand (IsWarden p) (λ k. fresh_warden) l.wardens.items;
}

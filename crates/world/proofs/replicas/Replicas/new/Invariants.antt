-- So many replicas are there.
use Rattle.std.proofs.Common.{◌≡◌, [], length}
use Rattle.protocol.specs.World.State.{Plan}
use Rattle.replica.specs.Replica.{StandsFor}
use Rattle.world.proofs.Placed.{Stand}
use Rattle.world.proofs.replicas.Replicas.new.Given as goal

abbrev pub invariant-loop-i : goal.invariant-loop-i
invariant-loop-i l = record {
  count : length l.replicas.items ≡ l.i;
  each : (p : Plan) → p.firsts ≡ l.firsts → Stand (λ n h r. StandsFor p.firsts n h r) (λ n. []) l.replicas.items;
}

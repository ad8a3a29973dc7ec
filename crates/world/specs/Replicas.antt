-- When replicas stand for those of a world.
use Rattle.std.specs.Prelude.{◌≡◌, ℕ, suc, length, Some}
use Rattle.std.specs.List.{slice_get}
use Rattle.protocol.specs.Replica.Taken.{Handled}
use Rattle.protocol.specs.World.State.{Plan}
use Rattle.replica.specs.Replica.{StandsFor}
use Rattle.replica.specs.declared.replica.Replica.{Replica}
use Rattle.world.specs.declared.replicas.Replicas.{Replicas}

-- as many as the plan has, each of which stands for what it handled
pub record AreReplicas (p : Plan) (handled : ℕ → Handled) (rs : Replicas) : Type 0 where
  pub count : length rs.replicas.items ≡ p.replicas
  pub each : (i : ℕ) (r : Replica) → slice_get rs.replicas.items i ≡ Some r → StandsFor p.firsts (suc i) (handled (suc i)) r

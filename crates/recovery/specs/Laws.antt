-- Recovery beside truncations.
use Rattle.std.specs.Prelude.{◌≡◌, List}
use Rattle.protocol.specs.Words.{Exec, NodeId, Body}
use Rattle.protocol.specs.Warden.State.{Truncation, WardenRules, WardenState, WardenTurn}
use Rattle.protocol.specs.Warden.Recovery.{recover, recovery_hears}
use Rattle.protocol.specs.Warden.Truncation.{with_truncations}

-- the turn, with these truncations
abbrev pub turn_with : WardenTurn → List Truncation → WardenTurn
turn_with t ts = record { state = with_truncations t.state ts; sent = t.sent }

-- recovery neither reads nor changes the truncations
pub record KeepsTruncations : Type 0 where
  pub recovers : (r : WardenRules) (s : WardenState) (ts : List Truncation) (x : Exec)
      → recover r (with_truncations s ts) x ≡ turn_with (recover r s x) ts
  pub hears : (r : WardenRules) (s : WardenState) (ts : List Truncation) (from : NodeId) (b : Body)
      → recovery_hears r (with_truncations s ts) from b ≡ turn_with (recovery_hears r s from b) ts

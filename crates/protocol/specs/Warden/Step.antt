-- The step of a warden, on whatever happens to it.
use Rattle.std.specs.Prelude.{ℕ, Option, Some, is_none}
use Rattle.protocol.specs.Words.{Version, Exec, NodeId, Body, Fenced}
use Rattle.std.specs.Bool.{then_some}
use Rattle.protocol.specs.Client.Counting.{sender}
use Rattle.protocol.specs.Warden.State.{WardenRules, WardenState, WardenTurn, decision_on}
use Rattle.protocol.specs.Warden.Recovery.{recover, recovery_hears}
use Rattle.protocol.specs.Warden.Truncation.{can_truncate, truncate, take_fenced, finish}

-- a Fenced from a replica
abbrev pub fenced_from : WardenRules → WardenTurn → Option ℕ → Body → WardenTurn
fenced_from rules u (Some k) (Fenced version b c v) = take_fenced rules u version (record { replica = k; base = b; committed = c; voted = v }) u.state.truncations
fenced_from rules u _ _ = u

-- the newest truncation ends where it can
abbrev pub finished : WardenRules → WardenTurn → WardenTurn
finished rules u = finish rules u u.state.truncations

-- a warden handles an envelope: recovery first, then the truncation
unfoldable pub warden_hears : WardenRules → WardenState → NodeId → Body → WardenTurn
warden_hears rules s from b = finished rules (fenced_from rules (recovery_hears rules s from b) (sender rules.replicas from) b)

-- what can happen to a warden: it recovers an execution, it truncates, an envelope comes
pub data WardenInput : Type 0 where
  Recovers : (exec : Exec) → WardenInput
  Truncates : (w : Version) → WardenInput
  Hears : (from : NodeId) (body : Body) → WardenInput

-- what happens to a warden, where it can happen
unfoldable pub warden_step : WardenRules → WardenState → WardenInput → Option WardenTurn
warden_step rules s (Recovers x) = then_some (is_none (decision_on s x)) (recover rules s x)
warden_step rules s (Truncates version) = then_some (can_truncate s version) (truncate s version)
warden_step rules s (Hears from b) = Some (warden_hears rules s from b)

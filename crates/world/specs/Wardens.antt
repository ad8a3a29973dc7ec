-- When wardens stand for those of a world.
use Rattle.std.specs.Prelude.{◌≡◌, ℕ, suc, Bool, ◌&&◌, nat_le, List, ◌++◌, length, Some, is_none, flat_map}
use Rattle.std.specs.List.{slice_get}
use Rattle.protocol.specs.Words.{Exec, Envelope, Warden as WardenNode}
use Rattle.protocol.specs.Warden.State.{WardenState, WardenTurn, decision_on}
use Rattle.protocol.specs.Warden.Recovery.{next_view}
use Rattle.protocol.specs.World.State.{Plan, warden_rules}
use Rattle.protocol.specs.World.Events.{at, parcel}
use Rattle.recovery.specs.Round.{last_view}
use Rattle.truncation.specs.Truncator.{StandsFor}
use Rattle.world.specs.declared.warden.Warden.{Warden}
use Rattle.world.specs.declared.wardens.Wardens.{Wardens}

-- a Recoverer and a Truncator that stand for what warden k remembers
pub record IsWarden (p : Plan) (k : ℕ) (s : WardenState) (w : Warden) : Type 0 where
  pub rules : w.recoverer.rules ≡ warden_rules p k
  pub stands : StandsFor w.truncator w.recoverer s

-- it stands for the state after a turn, and the turn's envelopes stand behind those that were there before
pub record TakesTurn (p : Plan) (k : ℕ) (t : WardenTurn) (w : Warden) (before after : List Envelope) : Type 0 where
  pub stands : IsWarden p k t.state w
  pub sent : after ≡ before ++ flat_map (parcel p.replicas (WardenNode k)) t.sent

-- x is undecided, and the next view for it is one that an envelope can carry
abbrev pub can_recover : Plan → ℕ → WardenState → Exec → Bool
can_recover p k s x = is_none (decision_on s x) && nat_le (next_view (warden_rules p k) s x) last_view

-- as many as the plan has, each of which stands for what it remembers
pub record AreWardens (p : Plan) (states : ℕ → WardenState) (ws : Wardens) : Type 0 where
  pub count : length ws.wardens.items ≡ p.wardens
  pub each : (i : ℕ) (w : Warden) → slice_get ws.wardens.items i ≡ Some w → IsWarden p (suc i) (states (suc i)) w

-- warden k takes a turn, whose envelopes stand behind those that were there before
pub record AreTurned (p : Plan) (states : ℕ → WardenState) (k : ℕ) (t : WardenTurn) (ws : Wardens) (before after : List Envelope) : Type 0 where
  pub stands : AreWardens p (at k t.state states) ws
  pub sent : after ≡ before ++ flat_map (parcel p.replicas (WardenNode k)) t.sent

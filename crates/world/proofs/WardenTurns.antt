-- A warden of a world, as its Recoverer and Truncator make it.
use Rattle.std.proofs.Common.{◌≡◌, ℕ, List, ◌++◌, ap, ◌∙◌, ◌&&◌}
use Rattle.std.specs.Prelude.{is_none, nat_le, flat_map}
use Rattle.protocol.specs.Words.{Exec, Envelope, Warden as WardenNode}
use Rattle.protocol.specs.Warden.State.{WardenRules, WardenState, WardenTurn, decision_on}
use Rattle.protocol.specs.Warden.Recovery.{next_view}
use Rattle.protocol.specs.World.State.{Plan, warden_rules}
use Rattle.protocol.specs.World.Events.{parcel}
use Rattle.recovery.specs.Round.{last_view}
use Rattle.recovery.specs.Recoverer as recoverer
use Rattle.recovery.specs.Recoverer.{RecoveringWarden}
use Rattle.truncation.specs.Truncator.{TruncatingWarden, StandsAt}
use Rattle.world.specs.declared.warden.Warden.{Warden}
use Rattle.world.specs.Wardens.{IsWarden, TakesTurn, can_recover}

pub takes : (p : Plan) (k : ℕ) (rec : RecoveringWarden) (t : TruncatingWarden) (turn : WardenTurn) (before after : List Envelope) →
    rec.rules ≡ warden_rules p k → StandsAt t rec before after turn → TakesTurn p k turn (record { recoverer = rec; truncator = t }) before after
takes p k rec t turn before after r a = record {
  stands = record { rules = r; stands = a.stands };
  sent = a.sent ∙ ap (λ (q : WardenRules). before ++ flat_map (parcel q.replicas (WardenNode q.warden)) turn.sent) r;
}

-- what it can recover is told by its Recoverer
pub same_can : (p : Plan) (k : ℕ) (s : WardenState) (w : Warden) (x : Exec) → IsWarden p k s w → recoverer.can_recover w.recoverer x ≡ can_recover p k s x
unfolding next_view
same_can p k s w x h =
    ap (λ (r : WardenRules). is_none (decision_on w.recoverer.state x) && nat_le (next_view r w.recoverer.state x) last_view) h.rules
    ∙ ap (λ (t : WardenState). is_none (decision_on t x) && nat_le (next_view (warden_rules p k) t x) last_view) h.stands.recoveries

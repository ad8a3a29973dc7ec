-- A warden takes its turn among the others.
use Rattle.std.proofs.Common.{◌≡◌, ℕ, ◌-◌, ◌<◌, ◌≤◌, List, length, get_or, set, ap, sym, subst, ◌∙◌}
use Rattle.std.proofs.lemmas.List.{length-set}
use Rattle.protocol.specs.Words.{Envelope}
use Rattle.protocol.specs.Warden.State.{WardenState, WardenTurn}
use Rattle.protocol.specs.World.State.{Plan}
use Rattle.protocol.specs.World.Events.{at}
use Rattle.world.specs.declared.warden.Warden.{Warden}
use Rattle.world.specs.declared.wardens.Wardens.{Wardens}
use Rattle.world.specs.Wardens.{AreWardens, AreTurned, IsWarden, TakesTurn}
use Rattle.world.proofs.Placed.{Stand, node_at, node_placed}

pub the_warden : (p : Plan) (states : ℕ → WardenState) (ws : Wardens) (n : ℕ) (r : Warden) → 0 < n → n ≤ length ws.wardens.items → r ≡ get_or ws.wardens.items (n - 1) r →
    AreWardens p states ws → IsWarden p n (states n) r
the_warden p states ws n r low high v are = node_at (IsWarden p) states ws.wardens.items n r low high v are.each

pub turned : (p : Plan) (states : ℕ → WardenState) (ws new : Wardens) (n : ℕ) (w : Warden) (t : WardenTurn) (before after : List Envelope) → 0 < n → AreWardens p states ws →
    new.wardens.items ≡ set ws.wardens.items (n - 1) w → TakesTurn p n t w before after → AreTurned p states n t new before after
turned p states ws new n w t before after low are e turn = record {
  stands = record {
    count = ap length e ∙ (length-set ws.wardens.items (n - 1) w ∙ are.count);
    each = subst (Stand (IsWarden p) (at n t.state states)) (sym e) (node_placed (IsWarden p) states ws.wardens.items n w t.state low are.each turn.stands);
  };
  sent = turn.sent;
}

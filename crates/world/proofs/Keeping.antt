-- What a node does changes nodes alone: the mail, what was delivered, who is stopped and the count are set by the world
-- around it, and attempts are begun by Go alone.
use Rattle.std.proofs.Common.{◌≡◌, ◌≢◌, ℕ, Bool, true, false, List, [], ◌∷◌, ◌++◌, Option, Some, None, refl, sym, ap, ◌∙◌, subst}
use Rattle.std.specs.Prelude.{cond, ◌+◌, ◌==◌, nat_le, option_map, length}
use Rattle.protocol.specs.Words.{NodeId, Client, Replica, Warden, Envelope, Pick, Idle, Deliver, Go, Hurry, Recover, Truncate, Stop, Event, Picked, Ran}
use Rattle.protocol.specs.Client.State.{ClientState, Turn}
use Rattle.protocol.specs.Client.Step.{Input, client_step}
use Rattle.protocol.specs.Client.Step.Input.{Goes, Runs, Hurries, Comes}
use Rattle.protocol.specs.Warden.State.{WardenTurn}
use Rattle.protocol.specs.Warden.Step.{WardenInput, warden_step}
use Rattle.protocol.specs.Warden.Step.WardenInput.{Recovers, Truncates, Hears}
use Rattle.protocol.specs.World.State.{Plan, World, mail_limit, rules, warden_rules}
use Rattle.protocol.specs.World.Events.{at, Move, client_moves, warden_moves, replica_moves, client_input, warden_input, receives, pick_moves, move_of, enabled, made, after}
use Rattle.protocol.proofs.TestLemmas.{eqb_is}
use Rattle.world.specs.World.{with_sent, counted, IsByItself}
use Rattle.world.proofs.AttemptsKept.{attempts_kept}
use Rattle.world_rows.proofs.Enabling.{IsDelivered, is_delivered, move_enabled}

-- all but the nodes stays, and each client has the attempts that it had
pub record KeepsRest (w : World) (v : Move) : Type 0 where
  pub mail : v.world.mail ≡ w.mail
  pub delivered : v.world.delivered ≡ w.delivered
  pub stopped : v.world.stopped ≡ w.stopped
  pub moved : v.world.moved ≡ w.moved
  pub attempts : (c : ℕ) → (v.world.client c).attempts ≡ (w.client c).attempts

-- what client c remembers is replaced
at_attempts : (c d : ℕ) (s : ClientState) (f : ℕ → ClientState) → s.attempts ≡ (f c).attempts → (at c s f d).attempts ≡ (f d).attempts
at_attempts c d s f same = go (d == c) refl
  where
    go : (t : Bool) → (d == c) ≡ t → (cond t s (f d)).attempts ≡ (f d).attempts
    go true e = same ∙ ap (λ (k : ℕ). (f k).attempts) (sym (eqb_is d c e))
    go false e = refl

pub client_keeps : (p : Plan) (w : World) (c : ℕ) (i : Input) (v : Move) → i ≢ Goes → client_input p w c i ≡ Some v → KeepsRest w v
unfolding client_moves
client_keeps p w c i v other e = go (client_step (rules p c) (w.client c) i) refl e
  where
    turned : (t : Turn) → client_step (rules p c) (w.client c) i ≡ Some t → KeepsRest w (client_moves p w c t)
    turned t s = record {
      mail = refl;
      delivered = refl;
      stopped = refl;
      moved = refl;
      attempts = λ d. at_attempts c d t.state w.client (attempts_kept (rules p c) (w.client c) i t other s).0;
    }

    go : (o : Option Turn) → client_step (rules p c) (w.client c) i ≡ o → option_map (client_moves p w c) o ≡ Some v → KeepsRest w v
    go None s e = cc
    go (Some t) s e = let f : client_moves p w c t ≡ v = cc in subst (KeepsRest w) f (turned t s)

pub warden_keeps : (p : Plan) (w : World) (k : ℕ) (i : WardenInput) (v : Move) → warden_input p w k i ≡ Some v → KeepsRest w v
unfolding warden_moves
warden_keeps p w k i v e = go (warden_step (warden_rules p k) (w.warden k) i) e
  where
    go : (o : Option WardenTurn) → option_map (warden_moves p w k) o ≡ Some v → KeepsRest w v
    go None e = cc
    go (Some t) e = let f : warden_moves p w k t ≡ v = cc in
        subst (KeepsRest w) f (record { mail = refl; delivered = refl; stopped = refl; moved = refl; attempts = λ d. refl })

-- a node handles an envelope
pub receives_keeps : (p : Plan) (w : World) (node : NodeId) (m : Envelope) (v : Move) → receives p w node m ≡ Some v → KeepsRest w v
unfolding replica_moves
receives_keeps p w (Client c) m v e = client_keeps p w c (Comes m.from m.body) v (λ q. cc) e
receives_keeps p w (Replica r) m v e = let f : replica_moves p w r m ≡ v = cc in
    subst (KeepsRest w) f (record { mail = refl; delivered = refl; stopped = refl; moved = refl; attempts = λ d. refl })
receives_keeps p w (Warden k) m v e = warden_keeps p w k (Hears m.from m.body) v e

-- whatever an event does, the mail and the count are set by the world around it
pub record KeepsMail (w : World) (v : Move) : Type 0 where
  pub mail : v.world.mail ≡ w.mail
  pub moved : v.world.moved ≡ w.moved

client_keeps_mail : (p : Plan) (w : World) (c : ℕ) (i : Input) (v : Move) → client_input p w c i ≡ Some v → KeepsMail w v
unfolding client_moves
client_keeps_mail p w c i v e = go (client_step (rules p c) (w.client c) i) e
  where
    go : (o : Option Turn) → option_map (client_moves p w c) o ≡ Some v → KeepsMail w v
    go None e = cc
    go (Some t) e = let f : client_moves p w c t ≡ v = cc in subst (KeepsMail w) f (record { mail = refl; moved = refl })

rest_keeps_mail : (w : World) (v : Move) → KeepsRest w v → KeepsMail w v
rest_keeps_mail w v k = record { mail = k.mail; moved = k.moved }

receives_keeps_mail : (p : Plan) (w : World) (node : NodeId) (m : Envelope) (v : Move) → receives p w node m ≡ Some v → KeepsMail w v
receives_keeps_mail p w node m v e = rest_keeps_mail w v (receives_keeps p w node m v e)

delivers_keeps_mail : (p : Plan) (w : World) (node : NodeId) (i : ℕ) (v : Move) → IsDelivered p w node i v → KeepsMail w v
delivers_keeps_mail p w node i v d =
    let k = receives_keeps_mail p w node d.m d.handled d.handles in
    subst (KeepsMail w) (sym d.marked) (record { mail = k.mail; moved = k.moved })

pick_keeps_mail : (p : Plan) (w : World) (node : NodeId) (pick : Pick) (v : Move) → pick_moves p w node pick ≡ Some v → KeepsMail w v
unfolding pick_moves
pick_keeps_mail p w node (Deliver i) v e = delivers_keeps_mail p w node i v (is_delivered p w node i v e)
pick_keeps_mail p w node Stop v e =
    let f : record { world = record w { stopped = w.stopped ++ node ∷ [] }; sent = [] } ≡ v = cc in subst (KeepsMail w) f (record { mail = refl; moved = refl })
pick_keeps_mail p w (Client c) Go v e = client_keeps_mail p w c Goes v e
pick_keeps_mail p w (Client c) Hurry v e = client_keeps_mail p w c Hurries v e
pick_keeps_mail p w (Warden k) (Recover x) v e = rest_keeps_mail w v (warden_keeps p w k (Recovers x) v e)
pick_keeps_mail p w (Warden k) (Truncate x) v e = rest_keeps_mail w v (warden_keeps p w k (Truncates x) v e)
pick_keeps_mail p w node _ v e = cc

pub move_keeps_mail : (p : Plan) (w : World) (e : Event) (v : Move) → move_of p w e ≡ Some v → KeepsMail w v
move_keeps_mail p w (Picked node pick) v e = pick_keeps_mail p w node pick v e
move_keeps_mail p w (Ran c) v e = client_keeps_mail p w c Runs v e

-- what a node does by itself, but for Go, keeps all but the node
pub itself_keeps : (p : Plan) (w : World) (node : NodeId) (pick : Pick) (v : Move) → IsByItself pick → pick_moves p w node pick ≡ Some v → KeepsRest w v
unfolding pick_moves
itself_keeps p w (Client c) Hurry v is e = client_keeps p w c Hurries v (λ q. cc) e
itself_keeps p w (Warden k) (Recover x) v is e = warden_keeps p w k (Recovers x) v e
itself_keeps p w (Warden k) (Truncate x) v is e = warden_keeps p w k (Truncates x) v e
itself_keeps p w node Idle v is e = absurd is
itself_keeps p w node (Deliver i) v is e = absurd is
itself_keeps p w node Stop v is e = absurd is
itself_keeps p w node Go v is e = absurd is
itself_keeps p w node _ v is e = cc

-- the world after an event that is enabled, where the mail has room
pub moved_after : (p : Plan) (w : World) (e : Event) (v : Move) → enabled p w e ≡ Some v → nat_le mail_limit (length w.mail) ≡ false →
    counted (with_sent v.world v.sent) ≡ after p w e
unfolding after
moved_after p w e v is room =
    let k = move_keeps_mail p w e v (move_enabled p w e v is) in
    ap (λ (ms : List Envelope). record v.world { mail = ms ++ v.sent; moved = v.world.moved + 1 }) k.mail
    ∙ ap (λ (n : ℕ). record v.world { mail = w.mail ++ v.sent; moved = n + 1 }) k.moved
    ∙ sym (ap (λ b. cond b w (record v.world { mail = w.mail ++ v.sent; moved = w.moved + 1 })) room)
    ∙ sym (ap (made w) is)

-- What an event can have done: it stands still, or one client, one replica or one warden takes one step.
use Rattle.std.proofs.Common.{◌≡◌, ℕ, inl, inr, refl, ap, sym, ◌∙◌, subst, true, false, Bool, List, [], ◌∷◌, ◌++◌, Option, Some, None, length}
use Rattle.std.specs.Prelude.{cond, option_map, zero, suc, nat_le, ◌+◌}
use Rattle.std.proofs.lemmas.List.{append-nil}
use Rattle.std.specs.List.{slice_get}
use Rattle.protocol.specs.Words.{NodeId, Client, Replica, Warden, Envelope, same_node, node_of, Pick, Deliver, Go, Hurry, Recover, Truncate, Stop, Event, Picked, Ran}
use Rattle.protocol.specs.Lists.{IsIn}
use Rattle.protocol.specs.Client.State.{Turn}
use Rattle.protocol.specs.Client.Step.{Input, client_step}
use Rattle.protocol.specs.Client.Step.Input.{Goes, Runs, Hurries, Comes}
use Rattle.protocol.specs.Warden.State.{WardenTurn}
use Rattle.protocol.specs.Warden.Step.{WardenInput, warden_step}
use Rattle.protocol.specs.Warden.Step.WardenInput.{Recovers, Truncates, Hears}
use Rattle.protocol.specs.World.State.{Plan, World, mail_limit, exists, is_live, in_range, rules, warden_rules}
use Rattle.protocol.specs.World.Events.{Move, client_moves, warden_moves, replica_moves, client_input, warden_input, receives, pick_moves, delivers, move_of, enabled, made, after, replay_from, mark}
use Rattle.protocol.specs.World.Steps.{Came, Heard, Happens}
use Rattle.protocol.specs.World.Steps.Happens.{Stays, Client_moves, Replica_moves, Warden_moves}
use Rattle.protocol.proofs.TestLemmas.{and_left, eqb_is}

-- an element at a place is in the list
pub IsIn-get : {A : Type 0} (xs : List A) (i : ℕ) (a : A) → slice_get xs i ≡ Some a → IsIn a xs
IsIn-get [] i a e = cc
IsIn-get (x ∷ xs) zero a e = inl (cc)
IsIn-get (x ∷ xs) (suc i) a e = inr (IsIn-get xs i a e)

-- what a world after the move v has, whatever was delivered, stopped or counted
pub record After (w w' : World) (v : Move) : Type 0 where
  pub client : w'.client ≡ v.world.client
  pub replica : w'.replica ≡ v.world.replica
  pub warden : w'.warden ≡ v.world.warden
  pub mail : w'.mail ≡ w.mail ++ v.sent

abbrev pub Does : Plan → World → Move → Type 0
Does p w v = (w' : World) → After w w' v → Happens p w w'

client_does : (p : Plan) (w : World) (c : ℕ) (i : Input) (v : Move) → in_range c (length p.clients) ≡ true → Came w (Client c) i → client_input p w c i ≡ Some v → Does p w v
unfolding client_moves
client_does p w c i v real came e = go (client_step (rules p c) (w.client c) i) refl e
  where
    go : (o : Option Turn) → client_step (rules p c) (w.client c) i ≡ o → option_map (client_moves p w c) o ≡ Some v → Does p w v
    go None s e = cc
    go (Some t) s e = λ w' a. let f : client_moves p w c t ≡ v = cc in
        Client_moves (record {
          c = c;
          real = real;
          input = i;
          came = came;
          turn = t;
          step = s;
          client = a.client ∙ sym (ap (λ (m : Move). m.world.client) f);
          replica = a.replica ∙ sym (ap (λ (m : Move). m.world.replica) f);
          warden = a.warden ∙ sym (ap (λ (m : Move). m.world.warden) f);
          mail = a.mail ∙ sym (ap (λ (m : Move). w.mail ++ m.sent) f);
        })

warden_does : (p : Plan) (w : World) (k : ℕ) (i : WardenInput) (v : Move) → in_range k p.wardens ≡ true → Heard w (Warden k) i → warden_input p w k i ≡ Some v → Does p w v
unfolding warden_moves
warden_does p w k i v real came e = go (warden_step (warden_rules p k) (w.warden k) i) refl e
  where
    go : (o : Option WardenTurn) → warden_step (warden_rules p k) (w.warden k) i ≡ o → option_map (warden_moves p w k) o ≡ Some v → Does p w v
    go None s e = cc
    go (Some t) s e = λ w' a. let f : warden_moves p w k t ≡ v = cc in
        Warden_moves (record {
          k = k;
          real = real;
          input = i;
          came = came;
          turn = t;
          step = s;
          client = a.client ∙ sym (ap (λ (m : Move). m.world.client) f);
          replica = a.replica ∙ sym (ap (λ (m : Move). m.world.replica) f);
          warden = a.warden ∙ sym (ap (λ (m : Move). m.world.warden) f);
          mail = a.mail ∙ sym (ap (λ (m : Move). w.mail ++ m.sent) f);
        })

replica_does : (p : Plan) (w : World) (r : ℕ) (m : Envelope) → in_range r p.replicas ≡ true → IsIn m w.mail → m.to ≡ Replica r → Does p w (replica_moves p w r m)
unfolding replica_moves
replica_does p w r m real here to = λ w' a.
    Replica_moves (record { r = r; real = real; m = m; in_mail = here; addressed = to; client = a.client; replica = a.replica; warden = a.warden; mail = a.mail })

receives_does : (p : Plan) (w : World) (node : NodeId) (m : Envelope) (v : Move) → exists p node ≡ true → IsIn m w.mail → m.to ≡ node → receives p w node m ≡ Some v → Does p w v
receives_does p w (Client c) m v real here to e = client_does p w c (Comes m.from m.body) v real (m, here, to, refl, refl) e
receives_does p w (Replica r) m v real here to e = let f : replica_moves p w r m ≡ v = cc in subst (Does p w) f (replica_does p w r m real here to)
receives_does p w (Warden k) m v real here to e = warden_does p w k (Hears m.from m.body) v real (m, here, to, refl, refl) e

-- what was marked as delivered does the same
marked_does : (p : Plan) (w : World) (i : ℕ) (v : Move) → Does p w v → Does p w (mark i v)
marked_does p w i v d = λ w' a. d w' (record { client = a.client; replica = a.replica; warden = a.warden; mail = a.mail })

pub same_node_is : (a b : NodeId) → same_node a b ≡ true → a ≡ b
unfolding same_node
same_node_is (Client a) (Client b) e = ap Client (eqb_is a b e)
same_node_is (Replica a) (Replica b) e = ap Replica (eqb_is a b e)
same_node_is (Warden a) (Warden b) e = ap Warden (eqb_is a b e)
same_node_is _ _ e = cc

delivers_does : (p : Plan) (w : World) (node : NodeId) (i : ℕ) (v : Move) → exists p node ≡ true → delivers p w node i (slice_get w.mail i) ≡ Some v → Does p w v
delivers_does p w node i v real e = go (slice_get w.mail i) refl e
  where
    go3 : (m : Envelope) (o : Option Move) → IsIn m w.mail → m.to ≡ node → receives p w node m ≡ o → option_map (mark i) o ≡ Some v → Does p w v
    go3 m None here to q e = cc
    go3 m (Some u) here to q e = let f : mark i u ≡ v = cc in subst (Does p w) f (marked_does p w i u (receives_does p w node m u real here to q))

    go2 : (m : Envelope) (t : Bool) → IsIn m w.mail → same_node node m.to ≡ t → (cond t (option_map (mark i) (receives p w node m)) None) ≡ Some v → Does p w v
    go2 m true here q e = go3 m (receives p w node m) here (sym (same_node_is node m.to q)) refl e
    go2 m false here q e = cc

    go : (o : Option Envelope) → slice_get w.mail i ≡ o → delivers p w node i o ≡ Some v → Does p w v
    go None q e = cc
    go (Some m) q e = go2 m (same_node node m.to) (IsIn-get w.mail i m q) refl e

stops_does : (p : Plan) (w : World) (node : NodeId) (v : Move) → record { world = record w { stopped = w.stopped ++ node ∷ [] }; sent = [] } ≡ v → Does p w v
stops_does p w node v f = λ w' a. Stays (record {
  client = a.client ∙ sym (ap (λ (m : Move). m.world.client) f);
  replica = a.replica ∙ sym (ap (λ (m : Move). m.world.replica) f);
  warden = a.warden ∙ sym (ap (λ (m : Move). m.world.warden) f);
  mail = a.mail ∙ sym (ap (λ (m : Move). w.mail ++ m.sent) f) ∙ append-nil w.mail;
})

pick_does : (p : Plan) (w : World) (node : NodeId) (pick : Pick) (v : Move) → exists p node ≡ true → pick_moves p w node pick ≡ Some v → Does p w v
unfolding pick_moves
pick_does p w node (Deliver i) v real q = delivers_does p w node i v real q
pick_does p w node Stop v real q = stops_does p w node v (cc)
pick_does p w (Client c) Go v real q = client_does p w c Goes v real tt q
pick_does p w (Client c) Hurry v real q = client_does p w c Hurries v real tt q
pick_does p w (Warden k) (Recover x) v real q = warden_does p w k (Recovers x) v real tt q
pick_does p w (Warden k) (Truncate x) v real q = warden_does p w k (Truncates x) v real tt q
pick_does p w node _ v real q = cc

move_does : (p : Plan) (w : World) (e : Event) (v : Move) → exists p (node_of e) ≡ true → move_of p w e ≡ Some v → Does p w v
move_does p w (Picked node pick) v real q = pick_does p w node pick v real q
move_does p w (Ran c) v real q = client_does p w c Runs v real tt q

stays : (p : Plan) (w : World) → Happens p w w
stays p w = Stays (record { client = refl; replica = refl; warden = refl; mail = refl })

made_does : (p : Plan) (w : World) (v : Move) → Does p w v → Happens p w (made w (Some v))
made_does p w v d = go (nat_le mail_limit (length w.mail))
  where
    go : (t : Bool) → Happens p w (cond t w (record { client = v.world.client; replica = v.world.replica; warden = v.world.warden; mail = w.mail ++ v.sent; delivered = v.world.delivered; stopped = v.world.stopped; moved = w.moved + 1 }))
    go true = stays p w
    go false = d _ (record { client = refl; replica = refl; warden = refl; mail = refl })

-- each event does one of the four things
pub after_happens : (p : Plan) (w : World) (e : Event) → Happens p w (after p w e)
unfolding after enabled
after_happens p w e = go (is_live p w (node_of e)) refl
  where
    go2 : (o : Option Move) → exists p (node_of e) ≡ true → move_of p w e ≡ o → Happens p w (made w o)
    go2 None real q = stays p w
    go2 (Some v) real q = made_does p w v (move_does p w e v real q)

    go : (t : Bool) → is_live p w (node_of e) ≡ t → Happens p w (made w (cond t (move_of p w e) None))
    go true q = go2 (move_of p w e) (and_left _ _ q) refl
    go false q = stays p w

-- what the first world has and each step keeps, every world has
pub always : (p : Plan) (I : World → Type 0) → ((w w' : World) → Happens p w w' → I w → I w') → (w : World) → I w → (events : List Event) → I (replay_from p w events)
always p I keeps w i [] = i
always p I keeps w i (e ∷ events) = always p I keeps (after p w e) (keeps w (after p w e) (after_happens p w e) i) events

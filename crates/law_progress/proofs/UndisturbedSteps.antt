-- What an undisturbed event does, with the envelope that it delivers.
use Rattle.std.proofs.Common.{◌≡◌, ℕ, refl, sym, subst, true, false, Bool, List, ◌++◌, Option, Some, None}
use Rattle.std.specs.Prelude.{cond, option_map, flat_map, ◌+◌}
use Rattle.std.specs.List.{slice_get}
use Rattle.protocol.specs.Words.{NodeId, Client, Replica, Warden, Envelope, same_node, node_of, Deliver, Go, Hurry, Recover, Truncate, Stop, Idle, Event, Picked, Ran}
use Rattle.std.specs.Bool.{then_some}
use Rattle.protocol.specs.Replica.Taken.{after_taking}
use Rattle.protocol.specs.Replica.Says.{says}
use Rattle.protocol.specs.Client.Attempts.{can_go, go, ran}
use Rattle.protocol.specs.Client.State.{Phase, ClientState}
use Rattle.protocol.specs.Client.State.Phase.{Between, Running, Prepared}
use Rattle.protocol.specs.Client.Step.{client_step, comes, on_ran}
use Rattle.protocol.specs.Client.Step.Input.{Goes, Runs, Comes}
use Rattle.protocol.specs.Warden.Step.{warden_step, warden_hears}
use Rattle.protocol.specs.Warden.Step.WardenInput.{Hears}
use Rattle.protocol.specs.World.State.{Plan, World, is_live, rules, warden_rules}
use Rattle.protocol.specs.World.Events.{Move, at, to_all, parcel, client_moves, warden_moves, replica_moves, client_input, warden_input, receives, pick_moves, delivers, move_of, enabled, marked, after, mark}
use Rattle.protocol.specs.Laws.{EventOutcome}
use Rattle.protocol.specs.Laws.EventOutcome.{Not_enabled, Refused, Moved}
use Rattle.protocol.proofs.BasicLaws.{events_move}
use Rattle.protocol.proofs.EventSteps.{same_node_is}
use Rattle.law_progress.specs.Undisturbed.{disturbs}

-- envelope m at place i was delivered
pub record Takes (w w' : World) (i : ℕ) (m : Envelope) (sent : List Envelope) : Type 0 where
  pub place : slice_get w.mail i ≡ Some m
  pub delivered : w'.delivered ≡ marked i w.delivered
  pub mail : w'.mail ≡ w.mail ++ sent

-- nothing was delivered
pub record Acts (w w' : World) (sent : List Envelope) : Type 0 where
  pub delivered : w'.delivered ≡ w.delivered
  pub mail : w'.mail ≡ w.mail ++ sent

-- nobody but client c changed
pub record ClientAlone (w w' : World) (c : ℕ) (s : ClientState) : Type 0 where
  pub client : w'.client ≡ at c s w.client
  pub replica : w'.replica ≡ w.replica
  pub warden : w'.warden ≡ w.warden

pub data Does (p : Plan) (w w' : World) : Type 0 where
  Nothing : w' ≡ w → Does p w w'
  Client_takes : (c i : ℕ) (m : Envelope) → m.to ≡ Client c
      → Takes w w' i m (flat_map (to_all p.replicas (Client c)) (comes (rules p c) (w.client c) (w.client c).phase m.from m.body).sent)
      → ClientAlone w w' c (comes (rules p c) (w.client c) (w.client c).phase m.from m.body).state → Does p w w'
  Client_goes : (c : ℕ) → can_go (rules p c) (w.client c) ≡ true → Acts w w' (flat_map (to_all p.replicas (Client c)) (go (rules p c) (w.client c)).sent)
      → ClientAlone w w' c (go (rules p c) (w.client c)).state → Does p w w'
  Client_runs : (c : ℕ) (given : Bool) → (w.client c).phase ≡ Running true given →
      Acts w w' (flat_map (to_all p.replicas (Client c)) (ran (rules p c) (w.client c) given).sent)
      → ClientAlone w w' c (ran (rules p c) (w.client c) given).state → Does p w w'
  Replica_takes : (r i : ℕ) (m : Envelope) → m.to ≡ Replica r → Takes w w' i m (says p.firsts r (w.replica r) m)
      → w'.client ≡ w.client → w'.replica ≡ at r (after_taking (w.replica r) m) w.replica → w'.warden ≡ w.warden → Does p w w'
  Warden_takes : (k i : ℕ) (m : Envelope) → m.to ≡ Warden k →
      Takes w w' i m (flat_map (parcel p.replicas (Warden k)) (warden_hears (warden_rules p k) (w.warden k) m.from m.body).sent)
      → w'.client ≡ w.client → w'.replica ≡ w.replica → w'.warden ≡ at k (warden_hears (warden_rules p k) (w.warden k) m.from m.body).state w.warden →
      Does p w w'

-- the world after a move
abbrev pub moved_to : World → Move → World
moved_to w v = record v.world { mail = w.mail ++ v.sent; moved = w.moved + 1 }

module _ (p : Plan) (w : World) where
  client_takes : (c i : ℕ) (m : Envelope) → m.to ≡ Client c → slice_get w.mail i ≡ Some m → (v : Move) → client_input p w c (Comes m.from m.body) ≡ Some v →
      Does p w (moved_to w (mark i v))
  unfolding client_step client_moves
  client_takes c i m to q v e = let f : client_moves p w c (comes (rules p c) (w.client c) (w.client c).phase m.from m.body) ≡ v = cc in
      subst (λ (u : Move). Does p w (moved_to w (mark i u))) f
      (Client_takes c i m to (record { place = q; delivered = refl; mail = refl }) (record { client = refl; replica = refl; warden = refl }))

  client_goes : (c : ℕ) (v : Move) → client_input p w c Goes ≡ Some v → Does p w (moved_to w v)
  unfolding client_step client_moves
  client_goes c v e = by (can_go (rules p c) (w.client c)) refl e
    where
      by : (t : Bool) → can_go (rules p c) (w.client c) ≡ t → option_map (client_moves p w c) (then_some t (go (rules p c) (w.client c))) ≡ Some v →
          Does p w (moved_to w v)
      by true q e = let f : client_moves p w c (go (rules p c) (w.client c)) ≡ v = cc in
          subst (λ (u : Move). Does p w (moved_to w u)) f (Client_goes c q (record { delivered = refl; mail = refl }) (record { client = refl; replica = refl; warden = refl }))
      by false q e = cc

  client_runs : (c : ℕ) (v : Move) → client_input p w c Runs ≡ Some v → Does p w (moved_to w v)
  unfolding client_step client_moves on_ran
  client_runs c v e = by (w.client c).phase refl e
    where
      by : (h : Phase) → (w.client c).phase ≡ h → option_map (client_moves p w c) (on_ran (rules p c) (w.client c) h) ≡ Some v → Does p w (moved_to w v)
      by (Running true g) q e = let f : client_moves p w c (ran (rules p c) (w.client c) g) ≡ v = cc in
          subst (λ (u : Move). Does p w (moved_to w u)) f (Client_runs c g q (record { delivered = refl; mail = refl }) (record { client = refl; replica = refl; warden = refl }))
      by (Running false g) q e = cc
      by Between q e = cc
      by (Prepared k vs o acs) q e = cc

  replica_takes : (r i : ℕ) (m : Envelope) → m.to ≡ Replica r → slice_get w.mail i ≡ Some m → (v : Move) → Some (replica_moves p w r m) ≡ Some v →
      Does p w (moved_to w (mark i v))
  unfolding replica_moves
  replica_takes r i m to q v e = let f : replica_moves p w r m ≡ v = cc in
      subst (λ (u : Move). Does p w (moved_to w (mark i u))) f (Replica_takes r i m to (record { place = q; delivered = refl; mail = refl }) refl refl refl)

  warden_takes : (k i : ℕ) (m : Envelope) → m.to ≡ Warden k → slice_get w.mail i ≡ Some m → (v : Move) → warden_input p w k (Hears m.from m.body) ≡ Some v →
      Does p w (moved_to w (mark i v))
  unfolding warden_step warden_moves
  warden_takes k i m to q v e = let f : warden_moves p w k (warden_hears (warden_rules p k) (w.warden k) m.from m.body) ≡ v = cc in
      subst (λ (u : Move). Does p w (moved_to w (mark i u))) f (Warden_takes k i m to (record { place = q; delivered = refl; mail = refl }) refl refl refl)

  receives_does : (node : NodeId) (i : ℕ) (m : Envelope) → m.to ≡ node → slice_get w.mail i ≡ Some m → (v : Move) → receives p w node m ≡ Some v →
      Does p w (moved_to w (mark i v))
  receives_does (Client c) i m to q v e = client_takes c i m to q v e
  receives_does (Replica r) i m to q v e = replica_takes r i m to q v e
  receives_does (Warden k) i m to q v e = warden_takes k i m to q v e

  delivers_does : (node : NodeId) (i : ℕ) (v : Move) → delivers p w node i (slice_get w.mail i) ≡ Some v → Does p w (moved_to w v)
  delivers_does node i v e = by (slice_get w.mail i) refl e
    where
      with : (m : Envelope) (o : Option Move) → m.to ≡ node → slice_get w.mail i ≡ Some m → receives p w node m ≡ o → option_map (mark i) o ≡ Some v →
          Does p w (moved_to w v)
      with m None to q z e = cc
      with m (Some u) to q z e = let f : mark i u ≡ v = cc in subst (λ (y : Move). Does p w (moved_to w y)) f (receives_does node i m to q u z)

      here : (m : Envelope) (t : Bool) → slice_get w.mail i ≡ Some m → same_node node m.to ≡ t →
          cond t (option_map (mark i) (receives p w node m)) None ≡ Some v → Does p w (moved_to w v)
      here m true q s e = with m (receives p w node m) (sym (same_node_is node m.to s)) q refl e
      here m false q s e = cc

      by : (o : Option Envelope) → slice_get w.mail i ≡ o → delivers p w node i o ≡ Some v → Does p w (moved_to w v)
      by None q e = cc
      by (Some m) q e = here m (same_node node m.to) q refl e

  move_does : (e : Event) (v : Move) → (disturbs e ≡ true → ⊥) → move_of p w e ≡ Some v → Does p w (moved_to w v)
  unfolding pick_moves
  move_does (Picked node (Deliver i)) v n e = delivers_does node i v e
  move_does (Picked node Stop) v n e = absurd (n refl)
  move_does (Picked node Hurry) v n e = absurd (n refl)
  move_does (Picked node (Recover x)) v n e = absurd (n refl)
  move_does (Picked node (Truncate x)) v n e = absurd (n refl)
  move_does (Picked (Client c) Go) v n e = client_goes c v e
  move_does (Picked (Replica c) Go) v n e = cc
  move_does (Picked (Warden c) Go) v n e = cc
  move_does (Picked node Idle) v n e = cc
  move_does (Ran c) v n e = client_runs c v e

  moves : (e : Event) (v : Move) → enabled p w e ≡ Some v → (disturbs e ≡ true → ⊥) → Does p w (moved_to w v)
  unfolding enabled
  moves e v q n = live (is_live p w (node_of e)) q
    where
      live : (t : Bool) → cond t (move_of p w e) None ≡ Some v → Does p w (moved_to w v)
      live true q = move_does e v n q
      live false q = cc

  pub does : (e : Event) → (disturbs e ≡ true → enabled p w e ≡ None) → Does p w (after p w e)
  does e calm = by (events_move p w e)
    where
      by : EventOutcome p w e → Does p w (after p w e)
      by (Not_enabled q s) = Nothing s
      by (Refused v q l s) = Nothing s
      by (Moved v q l s) = subst (λ (u : World). Does p w u) (sym s) (moves e v q (λ d. let z = calm d in cc))

-- A world is a lawful machine: what its links and its run ask of it holds after each history, of every plan.
use Rattle.std.proofs.Common.{◌≡◌, ◌≢◌, ℕ, Bool, true, false, List, [], ◌∷◌, ◌++◌, Option, Some, None, refl, sym, ap, ◌∙◌, subst}
use Rattle.std.specs.Prelude.{cond, ◌==◌, ◌+◌, nat_le, option_map, is_some, length}
use Rattle.std.specs.List.{slice_get}
use Rattle.protocol.specs.Words.{NodeId, Client, Replica, Warden, Event, Picked, Ran, Idle, Body, Ending}
use Rattle.protocol.specs.Client.State.{ClientState, Phase, Rules, Turn, walk}
use Rattle.protocol.specs.Client.State.Phase.{Between, Running, Prepared}
use Rattle.protocol.specs.Client.Attempts.{has_pending, prepare_when, prepare_if_ready, ran}
use Rattle.protocol.specs.Client.Step.{client_step, on_ran}
use Rattle.protocol.specs.Client.Step.Input.{Runs}
use Rattle.protocol.specs.World.State.{Plan, World, is_live, mail_limit, rules}
use Rattle.protocol.specs.World.Events.{at, Move, client_moves, client_input, pick_moves, move_of, enabled, made, after}
use Rattle.protocol.proofs.ListsLemmas.{at_same, at_other}
use Rattle.menus.proofs.SlotsLemmas.{one_slot}
use Rattle.net_core.specs.Machine.{History, Effect, Moves, Refused, Not_enabled}
use Rattle.net_core.specs.Replay.{SameMoment, IsLawful}
use Rattle.world_rows.specs.Machine.{world_after, effect_of, effect_in, is_pending, menu_in, machine_of}
use Rattle.world_rows.proofs.Enabling.{move_enabled}

module _ (p : Plan) where
  -- what does not move the world leaves it
  pub stays : (w : World) (e : Event) → effect_in p w e ≢ Moves → after p w e ≡ w
  unfolding effect_in after
  stays w e not_moved = go (enabled p w e) (nat_le mail_limit (length w.mail)) refl refl
    where
      go : (o : Option Move) (t : Bool) → enabled p w e ≡ o → nat_le mail_limit (length w.mail) ≡ t → made w o ≡ w
      go None t is full = refl
      go (Some v) true is full = ap (λ b. cond b w (record v.world { mail = w.mail ++ v.sent; moved = w.moved + 1 })) full
      go (Some v) false is full = absurd (not_moved (ap (λ o. effect_of o (nat_le mail_limit (length w.mail))) is ∙ ap (effect_of (Some v)) full))

  -- what moved it
  pub record HasMoved (w : World) (e : Event) : Type 0 where
    pub move : Move
    pub is : enabled p w e ≡ Some move
    pub after_it : after p w e ≡ record move.world { mail = w.mail ++ move.sent; moved = w.moved + 1 }

  pub has_moved : (w : World) (e : Event) → effect_in p w e ≡ Moves → HasMoved w e
  unfolding effect_in after
  has_moved w e moved = go (enabled p w e) (nat_le mail_limit (length w.mail)) refl refl
    where
      effect : (o : Option Move) (t : Bool) → enabled p w e ≡ o → nat_le mail_limit (length w.mail) ≡ t → effect_of o t ≡ Moves
      effect o t is full = sym (ap (λ b. effect_of b (nat_le mail_limit (length w.mail))) is ∙ ap (effect_of o) full) ∙ moved

      go : (o : Option Move) (t : Bool) → enabled p w e ≡ o → nat_le mail_limit (length w.mail) ≡ t → HasMoved w e
      go None t is full = let f : Not_enabled ≡ Moves = effect None t is full in cc
      go (Some v) true is full = let f : Refused ≡ Moves = effect (Some v) true is full in cc
      go (Some v) false is full = record {
        move = v;
        is = is;
        after_it = ap (made w) is ∙ ap (λ b. cond b w (record v.world { mail = w.mail ++ v.sent; moved = w.moved + 1 })) full;
      }

  prepared_waits : (r : Rules) (c : ClientState) (sent : List Body) (e : Option Ending) (b : Bool) → has_pending c.phase ≡ false →
      has_pending (prepare_when r c sent e b).state.phase ≡ false
  prepared_waits r c sent (Some e) true none = refl
  prepared_waits r c sent (Some e) false none = none
  prepared_waits r c sent None b none = none

  ran_waits : (r : Rules) (c : ClientState) (given : Bool) → has_pending (ran r c given).state.phase ≡ false
  unfolding ran prepare_if_ready
  ran_waits r c given = prepared_waits r (record c { phase = Running false true }) _ _ _ refl

  on_ran_waits : (r : Rules) (c : ClientState) (f : Phase) (t : Turn) → on_ran r c f ≡ Some t → has_pending t.state.phase ≡ false
  unfolding on_ran
  on_ran_waits r c (Running true given) t e = let f : ran r c given ≡ t = cc in subst (λ u. has_pending u.state.phase ≡ false) f (ran_waits r c given)
  on_ran_waits r c _ t e = cc

  -- a segment was given back: its client waits for no other, and the other clients are as they were
  record HasRun (w : World) (c : ℕ) (v : Move) : Type 0 where
    own : has_pending (v.world.client c).phase ≡ false
    others : (d : ℕ) → d ≢ c → v.world.client d ≡ w.client d

  has_run : (w : World) (c : ℕ) (v : Move) → client_input p w c Runs ≡ Some v → HasRun w c v
  unfolding client_moves client_step
  has_run w c v e = go (on_ran (rules p c) (w.client c) (w.client c).phase) refl e
    where
      go : (o : Option Turn) → on_ran (rules p c) (w.client c) (w.client c).phase ≡ o → option_map (client_moves p w c) o ≡ Some v → HasRun w c v
      go None is e = cc
      go (Some t) is e = let f : client_moves p w c t ≡ v = cc in subst (HasRun w c) f (record {
        own = ap (λ (s : ClientState). has_pending s.phase) (at_same c t.state w.client) ∙ on_ran_waits (rules p c) (w.client c) (w.client c).phase t is;
        others = λ d other. at_other c t.state w.client d other;
      })

  after_run : (w : World) (c : ℕ) → effect_in p w (Ran c) ≡ Moves → HasRun w c (record { world = after p w (Ran c); sent = [] })
  after_run w c moved =
      let h = has_moved w (Ran c) moved in
      let r = has_run w c h.move (move_enabled p w (Ran c) h.move h.is) in
      record {
        own = ap (λ (u : World). has_pending (u.client c).phase) h.after_it ∙ r.own;
        others = λ d other. ap (λ (u : World). u.client d) h.after_it ∙ r.others d other;
      }

  clients_alone : (w : World) (n : NodeId) → is_pending w n ≡ true → (c : ℕ) × (n ≡ Client c)
  clients_alone w (Client c) e = (c, refl)
  clients_alone w (Replica r) e = cc
  clients_alone w (Warden k) e = cc

  idle_is : (w : World) (n : NodeId) → pick_moves p w n Idle ≡ None
  unfolding pick_moves
  idle_is w (Client c) = refl
  idle_is w (Replica r) = refl
  idle_is w (Warden k) = refl

  never : (t : Bool) (o : Option Move) (full : Bool) → o ≡ None → effect_of (cond t o None) full ≡ Not_enabled
  never true o full e = ap (λ q. effect_of q full) e
  never false o full e = refl

  never_idle : (w : World) (n : NodeId) → effect_in p w (Picked n Idle) ≡ Not_enabled
  unfolding effect_in enabled
  never_idle w n = never (is_live p w n) (pick_moves p w n Idle) (nat_le mail_limit (length w.mail)) (idle_is w n)

  others_wait : (w : World) (c : ℕ) (n : NodeId) → effect_in p w (Ran c) ≡ Moves → n ≢ Client c → is_pending w n ≡ false → is_pending (after p w (Ran c)) n ≡ false
  others_wait w c (Client d) moved other none =
      ap (λ (s : ClientState). has_pending s.phase) ((after_run w c moved).others d (λ e. other (ap Client e))) ∙ none
  others_wait w c (Replica r) moved other none = refl
  others_wait w c (Warden k) moved other none = refl

  pub machines_are_lawful : IsLawful (machine_of p)
  machines_are_lawful = record {
    apart = λ i j n a b. one_slot (record { clients = length p.clients; replicas = p.replicas; wardens = p.wardens }) i j n a b;
    clients_alone = λ h n e. clients_alone (world_after p h) n e;
    idle = λ h n. never_idle (world_after p h) n;
    still = λ h e not_moved.
        let same = stays (world_after p h) e not_moved in
        record {
          live = λ n. ap (λ (w : World). is_live p w n) same;
          pending = λ n. ap (λ (w : World). is_pending w n) same;
          menu = λ n. ap (λ (w : World). menu_in p w n) same;
          effect = λ f. ap (λ (w : World). effect_in p w f) same;
        };
    ran = λ h c moved. (after_run (world_after p h) c moved).own;
    ran_others = λ h c n moved other none. others_wait (world_after p h) c n moved other none;
  }

-- The writes that an execution puts are a front of those that it prepares.
use Rattle.std.proofs.Common.{◌≡◌, ℕ, ℤ, ◌-◌, ◌⊎◌, inl, inr, refl, ap, sym, ◌∙◌, subst, List, [], ◌++◌, append_assoc, Some}
use Rattle.std.specs.List.{slice_get}
use Rattle.std.proofs.lemmas.List.{append-nil}
use Rattle.protocol.specs.Words.{Exec, Ending, Done, Abort, Overflow, ZeroDivisor, Body, Content, Write, Puts, Prepare}
use Rattle.protocol.specs.Lists.{IsIn}
use Rattle.protocol.specs.Client.State.{ClientState, Rules, content, values, walk, walk_at}
use Rattle.protocol.specs.World.Premises.{WritesGrow}
use Rattle.protocol.specs.World.State.{Plan, World, first_world, rules}
use Rattle.protocol.specs.World.Events.{replay_from}
use Rattle.protocol.specs.World.Decided.{WasSent}
use Rattle.protocol.proofs.ListsLemmas.{at_cases, at_same}
use Rattle.law_steps.specs.Executions.{IsEarlier}
use Rattle.law_steps.proofs.ClientActs.{IsRunning, Continues, WriteStep}
use Rattle.law_steps.proofs.PhaseLemmas.{running_under_way, running_between}
use Rattle.law_steps.proofs.Reach.{Step, Reach, ByClientAct, GotAt, events_reach}
use Rattle.law_steps.proofs.Reach.Step.{Stands, Client_acts, Replica_acts, Warden_acts}
use Rattle.law_steps.proofs.Reach.From.{Begins, Next}
use Rattle.law_steps.proofs.ClientFacts.{act_exec, rec_reach, HasPrepared, not_at, running_prepared}
use Rattle.law_steps.proofs.ExecutionsLemmas.{earlier_trans, earlier_itself}
use Rattle.law_steps.proofs.Senders.{prepare_from}
use Rattle.law_steps.proofs.Origin.{Origin, origin}
use Rattle.law_steps.proofs.Origin.Origin.{Old, Of_replica, Of_client, Of_warden}
use Rattle.txn_lang.specs.Laws.{IsFront}
use Rattle.law_serial.specs.PutsAreFronts.{IsPutFirst, PutsAreFronts}

front_itself : (ws vs : List Write) → ws ≡ vs → IsFront ws vs
front_itself ws vs e = ([], sym e ∙ sym (append-nil ws))

front_more : (ws us vs : List Write) → IsFront ws us → IsFront us vs → IsFront ws vs
front_more ws us vs a b = (a.0 ++ b.0, b.1 ∙ ap (λ (l : List Write). l ++ b.0) a.1 ∙ append_assoc ws a.0 b.0)

-- a content that is prepared keeps the writes of its program where its ending is Done, else none
content_front : (r : Rules) (c : ClientState) (e : Ending) (ws : List Write) → IsFront ws (walk r c).writes → IsPutFirst ws (content r c e)
unfolding content
content_front r c Done ws f = record { done = λ d. f; other = λ n. absurd (n refl) }
content_front r c Abort ws f = record { done = λ d. absurd cc; other = λ n. refl }
content_front r c Overflow ws f = record { done = λ d. absurd cc; other = λ n. refl }
content_front r c ZeroDivisor ws f = record { done = λ d. absurd cc; other = λ n. refl }

-- a content that keeps a write is one that is Done
pub written_front : (ws : List Write) (k : Content) → IsPutFirst ws k → (k.writes ≡ [] → ⊥) → IsFront ws k.writes
written_front ws k f some = go k.ending refl
  where
    go : (e : Ending) → k.ending ≡ e → IsFront ws k.writes
    go Done e = f.done e
    go Abort e = absurd (some (f.other (λ d. cc)))
    go Overflow e = absurd (some (f.other (λ d. cc)))
    go ZeroDivisor e = absurd (some (f.other (λ d. cc)))

-- what a client's step does to its record
record Move (p : Plan) (c : ℕ) (s s' : ClientState) : Type 0 where
  pub sent : List Body
  pub writes : WriteStep (rules p c) s s' sent
  pub exec : (s'.exec ≡ s.exec) ⊎ IsEarlier s.exec s'.exec

client_moves : (p : Plan) (w w' : World) → Step p w w' → (c : ℕ) → (w'.client c ≡ w.client c) ⊎ Move p c (w.client c) (w'.client c)
client_moves p w w' (Stands s) c = inl (ap (λ f. f c) s.client)
client_moves p w w' (Replica_acts s) c = inl (ap (λ f. f c) s.client)
client_moves p w w' (Warden_acts s) c = inl (ap (λ f. f c) s.client)
client_moves p w w' (Client_acts s) c = subst (λ (f : ℕ → ClientState). (f c ≡ w.client c) ⊎ Move p c (w.client c) (f c)) (sym s.client)
    (at_cases (λ (z : ClientState). (z ≡ w.client c) ⊎ Move p c (w.client c) z) s.c s.state w.client c
    (λ e. inr (subst (λ (j : ℕ). Move p j (w.client j) s.state) (sym e) (record { sent = s.sent; writes = s.writes; exec = act_exec (rules p s.c) (GotAt w s.c) (w.client s.c) s.state s.sent s.act }))) (inl refl))

-- of each Puts: its execution is not after the one under way, and while it runs its writes begin with those that were put
pub record Fronts (p : Plan) (w : World) : Type 0 where
  pub old : (y : Exec) (ws : List Write) → WasSent w (Puts y ws) → IsEarlier y (w.client y.ver.client).exec ⊎ (y ≡ (w.client y.ver.client).exec)
  pub front : (y : Exec) (ws : List Write) → WasSent w (Puts y ws) → y ≡ (w.client y.ver.client).exec → IsRunning (w.client y.ver.client).phase →
      IsFront ws (walk (rules p y.ver.client) (w.client y.ver.client)).writes
  pub prepared : (y : Exec) (ws : List Write) (k : Content) → WasSent w (Puts y ws) → WasSent w (Prepare y k) → IsPutFirst ws k

-- a Puts of this moment
abbrev IsNow : Plan → ClientState → ℕ → Exec → List Write → Type 0
IsNow p s c y ws = (y ≡ s.exec) × IsRunning s.phase × (ws ≡ (walk (rules p c) s).writes)

module _ (p : Plan) (grow : (c n : ℕ) →
    WritesGrow (walk_at (slice_get (rules p c).txns n))) (w w' : World) (q : Reach p w) (st : Step p w w') (s : Fronts p w) where
  q' : Reach p w'
  q' = Next w w' q st

  now : (cs : ByClientAct p w w') (y : Exec) (ws : List Write) → IsIn (Puts y ws) cs.sent → IsNow p (w'.client y.ver.client) y.ver.client y ws
  now cs y ws i = subst (λ (j : ℕ). IsNow p (w'.client j) j y ws) (sym mine) here
    where
      state : w'.client cs.c ≡ cs.state
      state = ap (λ (f : ℕ → ClientState). f cs.c) cs.client ∙ at_same cs.c cs.state w.client

      here : IsNow p (w'.client cs.c) cs.c y ws
      here = subst (λ (z : ClientState). IsNow p z cs.c y ws) (sym (ap (λ (f : ℕ → ClientState). f cs.c) cs.client
          ∙ at_same cs.c cs.state w.client)) (cs.writes.puts y ws i)

      mine : y.ver.client ≡ cs.c
      mine = ap (λ (z : Exec). z.ver.client) here.0 ∙ (rec_reach p w' (Next w w' q st) cs.c).own (running_under_way (w'.client cs.c).phase here.1)

  old_step : (y : Exec) (ws : List Write) → WasSent w' (Puts y ws) → IsEarlier y (w'.client y.ver.client).exec ⊎ (y ≡ (w'.client y.ver.client).exec)
  old_step y ws t = go (origin p w w' q st _ t)
    where
      later : IsEarlier y (w.client y.ver.client).exec ⊎ (y ≡ (w.client y.ver.client).exec) →
          (w'.client y.ver.client ≡ w.client y.ver.client) ⊎ Move p y.ver.client (w.client y.ver.client) (w'.client y.ver.client) →
          IsEarlier y (w'.client y.ver.client).exec ⊎ (y ≡ (w'.client y.ver.client).exec)
      later o (inl e) = subst (λ (z : ClientState). IsEarlier y z.exec ⊎ (y ≡ z.exec)) (sym e) o
      later o (inr m) = by m.exec o
        where
          by : ((w'.client y.ver.client).exec ≡ (w.client y.ver.client).exec) ⊎ IsEarlier (w.client y.ver.client).exec (w'.client y.ver.client).exec →
              IsEarlier y (w.client y.ver.client).exec ⊎ (y ≡ (w.client y.ver.client).exec) →
              IsEarlier y (w'.client y.ver.client).exec ⊎ (y ≡ (w'.client y.ver.client).exec)
          by (inl e) o = subst (λ (z : Exec). IsEarlier y z ⊎ (y ≡ z)) (sym e) o
          by (inr l) (inl b) = inl (earlier_trans y (w.client y.ver.client).exec (w'.client y.ver.client).exec b l)
          by (inr l) (inr e) = inl (subst (λ (z : Exec). IsEarlier z (w'.client y.ver.client).exec) (sym e) l)

      go : Origin p w w' (Puts y ws) → IsEarlier y (w'.client y.ver.client).exec ⊎ (y ≡ (w'.client y.ver.client).exec)
      go (Old z) = later (s.old y ws z) (client_moves p w w' st y.ver.client)
      go (Of_replica r f) = absurd f
      go (Of_warden k a i e f) = absurd f
      go (Of_client cs i) = inr (now cs y ws i).0

  -- the writes of the execution under way only grow
  writes_more : (c : ℕ) → Continues (w.client c) (w'.client c) → IsFront (walk (rules p c) (w.client c)).writes (walk (rules p c) (w'.client c)).writes
  writes_more c on = let g = (grow c ((w.client c).begun - 1)).more (values (w.client c).answers) on.more in (
    g.0,
    ap (λ (n : ℕ). (walk_at (slice_get (rules p c).txns (n - 1)) (values (w'.client c).answers)).writes) on.begun
        ∙ ap (λ (l : List ℤ). (walk_at (slice_get (rules p c).txns ((w.client c).begun - 1)) l).writes) on.answers ∙ g.1,
  )

  front_step : (y : Exec) (ws : List Write) → WasSent w' (Puts y ws) → y ≡ (w'.client y.ver.client).exec → IsRunning (w'.client y.ver.client).phase →
      IsFront ws (walk (rules p y.ver.client) (w'.client y.ver.client)).writes
  front_step y ws t e run = go (origin p w w' q st _ t)
    where
      not_later : IsEarlier (w.client y.ver.client).exec (w'.client y.ver.client).exec →
          IsEarlier y (w.client y.ver.client).exec ⊎ (y ≡ (w.client y.ver.client).exec) → ⊥
      not_later l (inl b) = earlier_itself y (subst (λ (z : Exec). IsEarlier y z) (sym e) (earlier_trans y (w.client y.ver.client).exec (w'.client y.ver.client).exec b l))
      not_later l (inr b) = earlier_itself y (subst (λ (z : Exec). IsEarlier y z) (sym e) (subst (λ (z : Exec). IsEarlier z (w'.client y.ver.client).exec) (sym b) l))

      by : WasSent w (Puts y ws) → (w'.client y.ver.client ≡ w.client y.ver.client) ⊎ Move p y.ver.client (w.client y.ver.client) (w'.client y.ver.client) →
          IsFront ws (walk (rules p y.ver.client) (w'.client y.ver.client)).writes
      by z (inl f) = subst (λ (u : ClientState). IsFront ws (walk (rules p y.ver.client) u).writes) (sym f) (s.front y ws z (subst (λ (u : ClientState). y
          ≡ u.exec) f e) (subst (λ (u : ClientState). IsRunning u.phase) f run))
      by z (inr m) = elim (m.writes.grows run) [
        | inl on ↦ front_more ws (walk (rules p y.ver.client) (w.client y.ver.client)).writes (walk (rules p y.ver.client) (w'.client y.ver.client)).writes (s.front y ws z (e ∙ on.exec) on.running) (writes_more y.ver.client on)
        | inr l ↦ absurd (not_later l (s.old y ws z))
      ]

      go : Origin p w w' (Puts y ws) → IsFront ws (walk (rules p y.ver.client) (w'.client y.ver.client)).writes
      go (Old z) = by z (client_moves p w w' st y.ver.client)
      go (Of_replica r f) = absurd f
      go (Of_warden k a i e f) = absurd f
      go (Of_client cs i) = front_itself ws _ (now cs y ws i).2

  prepared_step : (y : Exec) (ws : List Write) (k : Content) → WasSent w' (Puts y ws) → WasSent w' (Prepare y k) → IsPutFirst ws k
  prepared_step y ws k t u = go (origin p w w' q st _ t)
    where
      fresh : WasSent w (Puts y ws) → Origin p w w' (Prepare y k) → IsPutFirst ws k
      fresh z (Old v) = s.prepared y ws k z v
      fresh z (Of_replica r f) = absurd f
      fresh z (Of_warden j a i e f) = absurd f
      fresh z (Of_client cs i) = subst (λ (l : Content). IsPutFirst ws l) (sym n.2.1) (content_front (rules p cs.c) (w.client cs.c) n.2.0 ws whole)
        where
          n : (y ≡ (w.client cs.c).exec) × IsRunning (w.client cs.c).phase × ((e : Ending) × (k
              ≡ content (rules p cs.c) (w.client cs.c) e) × ((walk (rules p cs.c) (w.client cs.c)).ending ≡ Some e))
          n = cs.writes.prepares y k i

          mine : y.ver.client ≡ cs.c
          mine = ap (λ (x : Exec). x.ver.client) n.0 ∙ (rec_reach p w q cs.c).own (running_under_way (w.client cs.c).phase n.1)

          whole : IsFront ws (walk (rules p cs.c) (w.client cs.c)).writes
          whole = subst (λ (j : ℕ). IsFront ws (walk (rules p j) (w.client j)).writes) mine
              (s.front y ws z (subst (λ (j : ℕ). y ≡ (w.client j).exec) (sym mine) n.0) (subst (λ (j : ℕ). IsRunning (w.client j).phase) (sym mine) n.1))

      go : Origin p w w' (Puts y ws) → IsPutFirst ws k
      go (Old z) = fresh z (origin p w w' q st _ u)
      go (Of_replica r f) = absurd f
      go (Of_warden j a i e f) = absurd f
      go (Of_client cs i) =
          let n = now cs y ws i in
          absurd (not_at (HasPrepared k) y (w'.client y.ver.client) n.0 (running_between (w'.client y.ver.client).phase n.1) (running_prepared k (w'.client y.ver.client).phase n.1)
          (prepare_from p w' (Next w w' q st) u.envelope y k u.there u.body).1)

pub fronts_reach : (p : Plan) → ((c n : ℕ) → WritesGrow (walk_at (slice_get (rules p c).txns n))) → (w : World) → Reach p w → Fronts p w
fronts_reach p grow _ Begins = record { old = λ y ws t. absurd t.there; front = λ y ws t. absurd t.there; prepared = λ y ws k t. absurd t.there }
fronts_reach p grow _ (Next w w' q st) = let s = fronts_reach p grow w q in
    record { old = old_step p grow w w' q st s; front = front_step p grow w w' q st s; prepared = prepared_step p grow w w' q st s }

pub puts_are_fronts : PutsAreFronts
puts_are_fronts p premises events = (fronts_reach p premises.grow (replay_from p first_world events) (events_reach p first_world first_world Begins events)).prepared

-- Of all executions of all tries of a transaction at most one is committed.
use Rattle.std.proofs.Common.{◌≡◌, ℕ, ◌<◌, ◌≤◌, ◌⊎◌, inl, inr, refl, ap, sym, ◌∙◌, subst, List, arith}
use Rattle.protocol.specs.Words.{Exec, Version, Body, NodeId, Content, Commit, Abandon, Prepare}
use Rattle.protocol.specs.Lists.{IsIn}
use Rattle.protocol.specs.Client.State.{Rules, ClientState, Decision, Attempt}
use Rattle.protocol.specs.Client.State.Phase.{Between}
use Rattle.protocol.specs.World.State.{Plan, World, rules, first_world}
use Rattle.protocol.specs.World.Decided.{WasSent, IsOf}
use Rattle.protocol.proofs.ListsLemmas.{at_same}
use Rattle.protocol.proofs.QuorumsLemmas.{quorums_meet}
use Rattle.law_steps.specs.Executions.{IsEarlier}
use Rattle.law_steps.proofs.ExecutionsLemmas.{exec_order, earlier_itself}
use Rattle.law_steps.proofs.PhaseLemmas.{running_under_way, running_between}
use Rattle.law_steps.proofs.ClientActs.{ClientAct, IsRunning, TryStep}
use Rattle.law_steps.proofs.ClientActs.TryStep.{Keeps, Next_exec, Next_try}
use Rattle.law_steps.proofs.ClientActs.ClientAct.{Quiet, Advances, Prepares, Counts, Proposes, Accepts, Decides, Gives_up, Learns}
use Rattle.law_steps.proofs.Reach.{Step, Reach, GotAt}
use Rattle.law_steps.proofs.ClientFacts.{At, HasPrepared, rec_reach, not_at, running_prepared}
use Rattle.law_steps.proofs.Senders.{prepare_from}
use Rattle.law_steps.proofs.Origin.{Origin, origin}
use Rattle.law_steps.proofs.Origin.Origin.{Old, Of_replica, Of_client, Of_warden}
use Rattle.law_steps.proofs.ClientSent.{quiet_not, in_single, in_none}
use Rattle.law_steps.proofs.TryRec.{try_rec, client_tries}
use Rattle.law_steps.proofs.AlwaysLemmas.{always}
use Rattle.law_steps.proofs.Induction.{on_worlds}
use Rattle.law_safety.specs.Tries.{OneExecution, OneExecutionOf}
use Rattle.law_safety.proofs.LocksLemmas.{voted_prepared}
use Rattle.law_safety.proofs.ClientEvidence.{decisions_reach}
use Rattle.law_safety.proofs.TruncationSettles.{CommitSent, apart_locks}
use Rattle.law_safety.proofs.InvariantHolds.{safe_reach}
use Rattle.law_safety.proofs.CommitIsSent.{committed_sent}

-- a Prepare of client c that was sent in a step is of the execution under way
prepares_act : (r : Rules) (Got : NodeId → Body → Type 0) (s s' : ClientState) (sent : List Body) → ClientAct r Got s s' sent → (x : Exec) (k : Content) →
    IsIn (Prepare x k) sent → (x ≡ s.exec) × IsRunning s.phase × (s'.exec ≡ s.exec)
prepares_act r Got s s' sent (Quiet act) x k i = absurd (quiet_not sent _ (λ z. z) act.quiet i)
prepares_act r Got s s' sent (Advances act) x k i = absurd (in_none sent _ act.silent i)
prepares_act r Got s s' sent (Prepares act) x k i = let z = in_single sent _ _ act.sends i in let y : x ≡ s.exec = cc in (y, act.running, act.exec)
prepares_act r Got s s' sent (Counts act) x k i = absurd (in_none sent _ act.silent i)
prepares_act r Got s s' sent (Proposes act) x k i = let z = in_single sent _ _ act.sends i in cc
prepares_act r Got s s' sent (Accepts act) x k i = absurd (in_none sent _ act.silent i)
prepares_act r Got s s' sent (Decides act) x k i = let z = in_single sent _ _ act.sends i in cc
prepares_act r Got s s' sent (Gives_up act) x k i = let z = in_single sent _ _ act.sends i in cc
prepares_act r Got s s' sent (Learns act) x k i = absurd (in_none sent _ act.silent i)

fresh : (p : Plan) (w w' : World) → Reach p w → Step p w w' → (x : Exec) (k : Content) → WasSent w' (Prepare x k)
    → WasSent w (Prepare x k) ⊎ ((x ≡ (w.client x.ver.client).exec) × IsRunning (w.client x.ver.client).phase × ((w'.client x.ver.client).exec ≡ (w.client x.ver.client).exec))
fresh p w w' q st x k t = go (origin p w w' q st _ t)
  where
    go : Origin p w w' (Prepare x k) →
        WasSent w (Prepare x k) ⊎ ((x ≡ (w.client x.ver.client).exec) × IsRunning (w.client x.ver.client).phase × ((w'.client x.ver.client).exec ≡ (w.client x.ver.client).exec))
    go (Old z) = inl z
    go (Of_replica r f) = absurd f
    go (Of_warden ws a i e f) = absurd f
    go (Of_client cs i) =
        let a = prepares_act (rules p cs.c) (GotAt w cs.c) (w.client cs.c) cs.state cs.sent cs.act x k i in
        let mine : x.ver.client ≡ cs.c = ap (λ (z : Exec). z.ver.client) a.0 ∙ (rec_reach p w q cs.c).own (running_under_way _ a.1) in
        let after : (w'.client cs.c).exec ≡ (w.client cs.c).exec =
        ap (λ (f : ℕ → ClientState). (f cs.c).exec) cs.client ∙ ap (λ (z : ClientState). z.exec) (at_same cs.c cs.state w.client) ∙ a.2 in
        inr (subst (λ j. (x ≡ (w.client j).exec) × IsRunning (w.client j).phase × ((w'.client j).exec ≡ (w.client j).exec)) (sym mine) (a.0, a.1, after))

-- what was prepared is not after the execution under way
prepared_old : (p : Plan) (w : World) → Reach p w → (x : Exec) (k : Content) → WasSent w (Prepare x k) →
    IsEarlier x (w.client x.ver.client).exec ⊎ (x ≡ (w.client x.ver.client).exec)
prepared_old p w q x k t = go (prepare_from p w q t.envelope x k t.there t.body).1
  where
    go : At (HasPrepared k) x (w.client x.ver.client) → IsEarlier x (w.client x.ver.client).exec ⊎ (x ≡ (w.client x.ver.client).exec)
    go (inl (inl h)) = inl h
    go (inl (inr h)) = inr h.0
    go (inr h) = inr h.0

-- of one client: what was prepared and is not the present execution was abandoned before the next of its transaction
pub record Single (w : World) (c : ℕ) : Type 0 where
  pub past : (x : Exec) (k : Content) → WasSent w (Prepare x k) → x.ver.client ≡ c → IsEarlier x (w.client c).exec → (a : Attempt) →
      IsIn a (w.client c).attempts → a.ver ≡ x.ver → a.txn ≡ (w.client c).begun → IsIn (record { exec = x; choice = Abandon }) (w.client c).decisions
  pub pairs : (x y : Exec) (k l : Content) → WasSent w (Prepare x k) → WasSent w (Prepare y l) → x.ver.client ≡ c → y.ver.client ≡ c → IsEarlier x y →
      (a b : Attempt) → IsIn a (w.client c).attempts → IsIn b (w.client c).attempts → a.ver ≡ x.ver → b.ver ≡ y.ver → a.txn ≡ b.txn →
      IsIn (record { exec = x; choice = Abandon }) (w.client c).decisions
  pub has : (x : Exec) (k : Content) → WasSent w (Prepare x k) → x.ver.client ≡ c → (a : Attempt) × IsIn a (w.client c).attempts × (a.ver ≡ x.ver)

module _ (p : Plan) (w w' : World) (q : Reach p w) (st : Step p w w') (c : ℕ) where
  abbrev S : ClientState
  S = w.client c

  abbrev S' : ClientState
  S' = w'.client c

  abbrev IsNew : Exec → Type 0
  IsNew x = (x ≡ (w.client c).exec) × IsRunning (w.client c).phase × ((w'.client c).exec ≡ (w.client c).exec)

  fresh_at : (x : Exec) (k : Content) → x.ver.client ≡ c → WasSent w' (Prepare x k) → WasSent w (Prepare x k) ⊎ IsNew x
  fresh_at x k e t = elim (fresh p w w' q st x k t) [ inl z ↦ inl z | inr z ↦ inr (subst (λ j. (x ≡ (w.client j).exec) × IsRunning (w.client j).phase × ((w'.client j).exec ≡ (w.client j).exec)) e z) ]

  old_at : (x : Exec) (k : Content) → x.ver.client ≡ c → WasSent w (Prepare x k) → IsEarlier x (w.client c).exec ⊎ (x ≡ (w.client c).exec)
  old_at x k e t = subst (λ j. IsEarlier x (w.client j).exec ⊎ (x ≡ (w.client j).exec)) e (prepared_old p w q x k t)

  -- decisions stay, and a new attempt is above all that was prepared
  kept : (d : Decision) → IsIn d (w.client c).decisions → IsIn d (w'.client c).decisions
  kept d i = go (client_tries p w w' st c)
    where
      go : (w'.client c ≡ w.client c) ⊎ TryStep (w.client c) (w'.client c) → IsIn d (w'.client c).decisions
      go (inl e) = subst (λ (z : ClientState). IsIn d z.decisions) (sym e) i
      go (inr (Keeps e b a m k u)) = m d i
      go (inr (Next_exec v b a m k run)) = m d i
      go (inr (Next_try z l a m k run)) = m d i

  pub kept_attempt : (a : Attempt) → IsIn a (w.client c).attempts → IsIn a (w'.client c).attempts
  kept_attempt d i = go (client_tries p w w' st c)
    where
      go : (w'.client c ≡ w.client c) ⊎ TryStep (w.client c) (w'.client c) → IsIn d (w'.client c).attempts
      go (inl e) = subst (λ (z : ClientState). IsIn d z.attempts) (sym e) i
      go (inr (Keeps e b a m k u)) = subst (λ l. IsIn d l) (sym a) i
      go (inr (Next_exec v b a m k run)) = subst (λ l. IsIn d l) (sym a) i
      go (inr (Next_try z l a m k run)) = subst (λ l. IsIn d l) (sym a) (inr i)

  was_attempt : (a : Attempt) → IsIn a (w'.client c).attempts →
      IsIn a (w.client c).attempts ⊎ (((w.client c).phase ≡ Between) × ((w.client c).exec.ver.ts < a.ver.ts))
  was_attempt d i = go (client_tries p w w' st c)
    where
      go : (w'.client c ≡ w.client c) ⊎ TryStep (w.client c) (w'.client c) →
          IsIn d (w.client c).attempts ⊎ (((w.client c).phase ≡ Between) × ((w.client c).exec.ver.ts < d.ver.ts))
      go (inl e) = inl (subst (λ (z : ClientState). IsIn d z.attempts) e i)
      go (inr (Keeps e b a m k u)) = inl (subst (λ l. IsIn d l) a i)
      go (inr (Next_exec v b a m k run)) = inl (subst (λ l. IsIn d l) a i)
      go (inr (Next_try z l a m k run)) =
          elim (subst (λ l. IsIn d l) a i) [ inl y ↦ inr (z, let f = ap (λ (x : Attempt). x.ver.ts) y in omega (arith, f, l)) | inr j ↦ inl j ]

  -- the attempt of what was prepared, or is running, was there before
  attempt_of : (x : Exec) (a : Attempt) → (IsEarlier x (w.client c).exec ⊎ (x ≡ (w.client c).exec)) → a.ver ≡ x.ver → IsIn a (w'.client c).attempts →
      IsIn a (w.client c).attempts
  attempt_of x a o e i = elim (was_attempt a i) [
    | inl z ↦ z
    | inr z ↦ let f = ap (λ (v : Version). v.ts) e in let l = z.1 in let m : x.ver.ts ≤ (w.client c).exec.ver.ts = low o in absurd (omega (arith, f, l, m))
  ]
    where
      low : IsEarlier x (w.client c).exec ⊎ (x ≡ (w.client c).exec) → x.ver.ts ≤ (w.client c).exec.ver.ts
      low (inl (inl h)) = omega (arith, h)
      low (inl (inr h)) = let g = h.0 in omega (arith, g)
      low (inr h) = let g = ap (λ (z : Exec). z.ver.ts) h in omega (arith, g)

  earlier_not : (x : Exec) → x ≡ (w.client c).exec → IsEarlier x (w.client c).exec → ⊥
  earlier_not x e h = earlier_itself (w.client c).exec (subst (λ z. IsEarlier z (w.client c).exec) e h)

  after_not : (y : Exec) → IsEarlier y (w.client c).exec ⊎ (y ≡ (w.client c).exec) → IsEarlier (w.client c).exec y → ⊥
  after_not y (inl (inl h)) (inl g) = omega (arith, h, g)
  after_not y (inl (inl h)) (inr g) = let g0 = g.0 in omega (arith, h, g0)
  after_not y (inl (inr h)) (inl g) = let h0 = h.0 in omega (arith, h0, g)
  after_not y (inl (inr h)) (inr g) = let h1 = h.1 in let g1 = g.1 in omega (arith, h1, g1)
  after_not y (inr e) g = earlier_itself (w.client c).exec (subst (λ z. IsEarlier (w.client c).exec z) e g)

  place : (x : Exec) (k : Content) → x.ver.client ≡ c → WasSent w (Prepare x k) ⊎ IsNew x → IsEarlier x (w.client c).exec ⊎ (x ≡ (w.client c).exec)
  place x k e (inl t) = old_at x k e t
  place x k e (inr n) = inr n.0

  module _ (s : Single w c) where
    -- the execution that was under way, where it was prepared and another one follows
    passed : (x : Exec) (k : Content) → WasSent w (Prepare x k) → x.ver.client ≡ c → x ≡ (w.client c).exec → IsRunning (w.client c).phase → ⊥
    passed x k t e f run =
        let h = (prepare_from p w q t.envelope x k t.there t.body).1 in
        not_at (HasPrepared k) x (w.client c) f (running_between _ run) (running_prepared k _ run) (subst (λ j. At (HasPrepared k) x (w.client j)) e h)

    past_step : (x : Exec) (k : Content) → WasSent w' (Prepare x k) → x.ver.client ≡ c → IsEarlier x (w'.client c).exec → (a : Attempt) →
        IsIn a (w'.client c).attempts → a.ver ≡ x.ver → a.txn ≡ (w'.client c).begun → IsIn (record { exec = x; choice = Abandon }) (w'.client c).decisions
    past_step x k t e before a i v n = new (fresh_at x k e t)
      where
        go : (t : WasSent w (Prepare x k)) → IsIn a (w.client c).attempts → IsEarlier x (w.client c).exec ⊎ (x ≡ (w.client c).exec) →
            (w'.client c ≡ w.client c) ⊎ TryStep (w.client c) (w'.client c) → IsIn (record { exec = x; choice = Abandon }) (w'.client c).decisions
        go t j (inl o) (inl z) = kept _ (s.past x k t e o a j v (n ∙ ap (λ (y : ClientState). y.begun) z))
        go t j (inr o) (inl z) = absurd (earlier_not x o (subst (λ (y : ClientState). IsEarlier x y.exec) z before))
        go t j (inl o) (inr (Keeps f b d m g u)) = kept _ (s.past x k t e o a j v (n ∙ b))
        go t j (inr o) (inr (Keeps f b d m g u)) = absurd (earlier_not x o (subst (λ y. IsEarlier x y) f before))
        go t j (inl o) (inr (Next_exec f b d m g run)) = kept _ (s.past x k t e o a j v (n ∙ b))
        go t j (inr o) (inr (Next_exec f b d m (inl g) run)) = absurd (passed x k t e o g)
        go t j (inr o) (inr (Next_exec f b d m (inr g) run)) =
            kept _ (subst (λ y. IsIn (record { exec = y; choice = Abandon }) (w.client c).decisions) (sym o) g.1)
        go t j (inl o) (inr (Next_try f l d m (inl g) run)) = kept _ (s.past x k t e o a j v (n ∙ g.0))
        go t j (inr o) (inr (Next_try f l d m (inl g) run)) =
            kept _ (subst (λ y. IsIn (record { exec = y; choice = Abandon }) (w.client c).decisions) (sym o) ((try_rec p w q c).aborted f g.1))
        go t j o (inr (Next_try f l d m (inr g) run)) = let h = ((try_rec p w q c).bounded a j).1 in absurd (omega (arith, h, n, g))

        new : WasSent w (Prepare x k) ⊎ IsNew x → IsIn (record { exec = x; choice = Abandon }) (w'.client c).decisions
        new (inl t) = go t (attempt_of x a (old_at x k e t) v i) (old_at x k e t) (client_tries p w w' st c)
        new (inr z) = absurd (earlier_not x z.0 (subst (λ y. IsEarlier x y) z.2 before))

    pairs_step : (x y : Exec) (k l : Content) → WasSent w' (Prepare x k) → WasSent w' (Prepare y l) → x.ver.client ≡ c → y.ver.client ≡ c → IsEarlier x y →
        (a b : Attempt) → IsIn a (w'.client c).attempts → IsIn b (w'.client c).attempts → a.ver ≡ x.ver → b.ver ≡ y.ver → a.txn ≡ b.txn →
        IsIn (record { exec = x; choice = Abandon }) (w'.client c).decisions
    pairs_step x y k l t u e f before a b i j v z n = go (fresh_at x k e t) (fresh_at y l f u)
      where
        go : WasSent w (Prepare x k) ⊎ IsNew x → WasSent w (Prepare y l) ⊎ IsNew y → IsIn (record { exec = x; choice = Abandon }) (w'.client c).decisions
        go (inl t) (inl u) = kept _ (s.pairs x y k l t u e f before a b (attempt_of x a (old_at x k e t) v i) (attempt_of y b (old_at y l f u) z j) v z n)
        go (inr g) o = absurd (after_not y (place y l f o) (subst (λ h. IsEarlier h y) g.0 before))
        go (inl t) (inr g) =
            let j' = attempt_of y b (inr g.0) z j in
            kept _ (s.past x k t e (subst (λ h. IsEarlier x h) g.0 before) a (attempt_of x a (old_at x k e t) v i) v (n ∙ (try_rec p w q c).begun b j' (z ∙ ap (λ (h : Exec). h.ver) g.0)))

    has_step : (x : Exec) (k : Content) → WasSent w' (Prepare x k) → x.ver.client ≡ c → (a : Attempt) × IsIn a (w'.client c).attempts × (a.ver ≡ x.ver)
    has_step x k t e = go (fresh_at x k e t)
      where
        go : WasSent w (Prepare x k) ⊎ IsNew x → (a : Attempt) × IsIn a (w'.client c).attempts × (a.ver ≡ x.ver)
        go (inl t) = let h = s.has x k t e in (h.0, kept_attempt h.0 h.1, h.2)
        go (inr n) = let h = (try_rec p w q c).has (inl (running_under_way (w.client c).phase n.1)) in (h.0, kept_attempt h.0 h.1, h.2 ∙ ap (λ (z : Exec). z.ver) (sym n.0))

pub single_reach : (p : Plan) (w : World) → Reach p w → (c : ℕ) → Single w c
single_reach p w q c =
    on_worlds p first_world (λ v. Single v c) (record { past = λ x k t. absurd t.there; pairs = λ x y k l t. absurd t.there; has = λ x k t. absurd t.there })
    (λ u v g st s. record { past = past_step p u v g st c s; pairs = pairs_step p u v g st c s; has = has_step p u v g st c s }) w q

module _ (p : Plan) (pos : 0 < p.replicas) (w : World) (q : Reach p w) where
  pub committed_prepared : (x : Exec) → CommitSent w x → (k : Content) × WasSent w (Prepare x k)
  committed_prepared x c = let v = ((safe_reach p pos w q).committed x c.0 c.1).1 in let m = quorums_meet p.replicas _ _ v v in voted_prepared p w q x Commit m.0 m.1

  not_both : (x y : Exec) (a b : Attempt) → CommitSent w x → CommitSent w y → IsOf w x a → IsOf w y b → x.ver.client ≡ y.ver.client → a.txn ≡ b.txn →
      IsEarlier x y → ⊥
  not_both x y a b c d i j e n before =
      let k = committed_prepared x c in let l = committed_prepared y d in
      let z = (single_reach p w q x.ver.client).pairs x y k.0 l.0 k.1 l.1 refl (sym e) before a b i.begun (subst (λ h. IsIn b (w.client h).attempts) (sym e) j.begun) i.version j.version n in
      let o = (decisions_reach p pos w q x.ver.client).sent (record { exec = x; choice = Abandon }) z in
      apart_locks p pos w q (safe_reach p pos w q) x ((safe_reach p pos w q).abandoned x o.0 o.1) c

  one_of_all : (x y : Exec) (a b : Attempt) → CommitSent w x → CommitSent w y → IsOf w x a → IsOf w y b → x.ver.client ≡ y.ver.client → a.txn ≡ b.txn → x ≡ y
  one_of_all x y a b c d i j e n = elim (exec_order x y e) [
    | inl l ↦ absurd (not_both x y a b c d i j e n l)
    | inr o ↦ elim o [ inl z ↦ z | inr l ↦ absurd (not_both y x b a d c j i (sym e) (sym n) l) ]
  ]

pub one_execution : OneExecution
one_execution = always OneExecutionOf (λ p some w q x y a b c d i j e n. one_of_all p some w q x y a b (committed_sent p some w q x c) (committed_sent p some w q y d) i j e n)

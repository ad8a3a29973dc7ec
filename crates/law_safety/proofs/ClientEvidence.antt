-- What a client counted was sent by replicas, and what it decided it sent.
use Rattle.std.proofs.Common.{◌≡◌, ℕ, ◌<◌, ◌≤◌, inl, inr, refl, sym, ◌∙◌, subst, false, List, [], ◌∷◌, ◌++◌, Option, Some, None, arith}
use Rattle.std.specs.Prelude.{flat_map, map, ◌==◌}
use Rattle.std.specs.List.{list_any}
use Rattle.std.proofs.lemmas.List.{map-id}
use Rattle.protocol.specs.Words.{Exec, NodeId, Client, Replica, Envelope, Body, Content, Choice, Abandon, Prepare, Finalize, Decide}
use Rattle.protocol.specs.Lists.{IsIn, upto}
use Rattle.protocol.specs.Replica.Votes.{vote}
use Rattle.protocol.specs.Replica.Acceptor.{acceptances, new_acceptance}
use Rattle.protocol.specs.Client.State.{ClientState, Phase, CountedVote, Decision}
use Rattle.protocol.specs.Client.Deciding.{content_for}
use Rattle.protocol.specs.Client.State.Phase.{Between, Running, Prepared}
use Rattle.protocol.specs.World.State.{Plan, World, rules}
use Rattle.protocol.specs.World.Events.{to_all}
use Rattle.protocol.specs.Quorums.{HasNoRepeats}
use Rattle.protocol.specs.World.Decided.{WasSent}
use Rattle.protocol.proofs.ListsLemmas.{IsIn-left, IsIn-right, IsIn-cases, map_in, upto_in}
use Rattle.protocol.proofs.DistinctLemmas.{distinct_more, distinct_map_more, absent}
use Rattle.law_steps.proofs.ClientActs.{ClientAct, IsRunning, SameStage}
use Rattle.law_steps.proofs.ClientActs.ClientAct.{Quiet, Advances, Prepares, Counts, Proposes, Accepts, Decides, Gives_up, Learns}
use Rattle.law_steps.proofs.Reach.{Step, Reach, ByClientAct, GotAt}
use Rattle.law_steps.proofs.Reach.Step.{Client_acts}
use Rattle.law_steps.proofs.ReplicaFacts.{RFact, AcceptedFact, facts_reach}
use Rattle.law_steps.proofs.Induction.{on_clients}
use Rattle.law_safety.proofs.LocksLemmas.{sent_grows, replica_grows, voted_grows}

pub absent_id : (j : ℕ) (xs : List ℕ) → list_any (λ i. i == j) xs ≡ false → IsIn j xs → ⊥
absent_id j xs e i = absent (λ z. z) j xs e (rw map-id i)

-- what a prepared client has evidence of
pub record Evidence (n : ℕ) (w : World) (x : Exec) (k : Content) (vs : List CountedVote) (o : Option Choice) (acs : List ℕ) : Type 0 where
  pub prepare : WasSent w (Prepare x k)
  pub ballot : (b : CountedVote) → IsIn b vs → ((0 < b.replica) × (b.replica ≤ n)) × (vote (w.replica b.replica) x ≡ Some b.vote)
  pub voters : HasNoRepeats (map (λ (b : CountedVote). b.replica) vs)
  pub accept : (j : ℕ) → IsIn j acs → ((0 < j) × (j ≤ n)) × AcceptedFact (w.replica j) x 0
  pub accepters : HasNoRepeats acs
  pub proposed : (d : Choice) → o ≡ Some d → WasSent w (Finalize x 0 d (content_for k d))

pub record Evident (n : ℕ) (w : World) (s : ClientState) : Type 0 where
  pub phase : (k : Content) (vs : List CountedVote) (o : Option Choice) (acs : List ℕ) → s.phase ≡ Prepared k vs o acs → Evidence n w s.exec k vs o acs

pub accepted_fact_grows : (p : Plan) (w w' : World) → Step p w w' → (x : Exec) (v r : ℕ) → AcceptedFact (w.replica r) x v → AcceptedFact (w'.replica r) x v
accepted_fact_grows p w w' s x v r f =
    replica_grows p w w' s (λ h. AcceptedFact h x v) (λ h m k. (k.0, IsIn-right k.0 (new_acceptance h m.body) (acceptances h) k.1, k.2, k.3)) r f

evidence_grows : (p : Plan) (w w' : World) → Step p w w' → (x : Exec) (k : Content) (vs : List CountedVote) (o : Option Choice) (acs : List ℕ) →
    Evidence p.replicas w x k vs o acs → Evidence p.replicas w' x k vs o acs
evidence_grows p w w' s x k vs o acs e = record {
  prepare = sent_grows p w w' s _ e.prepare;
  ballot = λ b i. let f = e.ballot b i in (f.0, voted_grows p w w' s x b.vote b.replica f.1);
  voters = e.voters;
  accept = λ j i. let f = e.accept j i in (f.0, accepted_fact_grows p w w' s x 0 j f.1);
  accepters = e.accepters;
  proposed = λ d f. sent_grows p w w' s _ (e.proposed d f);
}

-- a new state is evident in the new world, where the old one was in it, and what the act sent is there
act_evident : (p : Plan) (w w' : World) → Reach p w → Step p w w' → (c : ℕ) (s : ClientState) (sent : List Body) → ((b : Body) → IsIn b sent → WasSent w' b) →
    ClientAct (rules p c) (GotAt w c) (w.client c) s sent → Evident p.replicas w' (w.client c) → Evident p.replicas w' s
act_evident p w w' q st c s sent new (Quiet act) t =
    record { phase = λ k vs o acs h. rw act.exec (t.phase k vs o acs (same (w.client c).phase act.stage k vs o acs h)) }
  where
    same : (z : Phase) → SameStage z s.phase → (k : Content) (vs : List CountedVote) (o : Option Choice) (acs : List ℕ) → s.phase ≡ Prepared k vs o acs →
        z ≡ Prepared k vs o acs
    same Between g k vs o acs h = cc
    same (Running a b) g k vs o acs h = absurd (subst IsRunning h g)
    same (Prepared k' v' o' a') g k vs o acs h = sym g ∙ h
act_evident p w w' q st c s sent new (Advances act) t = record { phase = λ k vs o acs h. absurd (subst IsRunning h act.running) }
act_evident p w w' q st c s sent new (Prepares act) t = record { phase = λ k vs o acs h. go k vs o acs (sym h ∙ act.phase) }
  where
    go : (k : Content) (vs : List CountedVote) (o : Option Choice) (acs : List ℕ) → Prepared k vs o acs ≡ Prepared act.content [] None [] →
        Evidence p.replicas w' s.exec k vs o acs
    go k vs o acs z = let z1 : k ≡ act.content = cc in let z2 : vs ≡ [] = cc in let z3 : o ≡ None = cc in let z4 : acs ≡ [] = cc in rw (z1, z2, z3, z4) (record {
      prepare = rw act.exec (new (Prepare (w.client c).exec act.content) (rw act.sends (inl refl)));
      ballot = λ b i. absurd i;
      voters = tt;
      accept = λ j i. absurd i;
      accepters = tt;
      proposed = λ d y. cc;
    })
act_evident p w w' q st c s sent new (Counts act) t = record { phase = λ k vs o acs h. go k vs o acs (sym h ∙ act.phase) }
  where
    old : Evidence p.replicas w' (w.client c).exec act.content act.votes None act.accepts
    old = t.phase act.content act.votes None act.accepts act.before

    heard : vote (w'.replica act.replica) (w.client c).exec ≡ Some act.vote
    heard = voted_grows p w w' st _ act.vote act.replica (subst (RFact act.replica (w.replica act.replica)) act.got.4 ((facts_reach p w q).said act.got.0 act.replica act.got.1 act.got.3))

    go : (k : Content) (vs : List CountedVote) (o : Option Choice) (acs : List ℕ) →
        Prepared k vs o acs ≡ Prepared act.content (act.votes ++ record { replica = act.replica; vote = act.vote } ∷ []) None [] →
        Evidence p.replicas w' s.exec k vs o acs
    go k vs o acs z = let z1 : k ≡ act.content = cc in let z2 : vs ≡ act.votes ++ record { replica = act.replica; vote = act.vote } ∷ [] = cc in let z3 : o ≡ None = cc in let z4 : acs ≡ [] = cc in rw (z1, z2, z3, z4, act.exec) (record {
      prepare = old.prepare;
      ballot = λ x i. elim (IsIn-cases x act.votes (record { replica = act.replica; vote = act.vote } ∷ []) i) [ inl m ↦ old.ballot x m | inr m ↦ elim m [ inl y ↦ rw y (act.range, heard) | inr y ↦ absurd y ] ];
      voters = distinct_map_more (λ (x : CountedVote). x.replica) act.votes (record { replica = act.replica; vote = act.vote }) old.voters act.fresh;
      accept = λ i m. absurd m;
      accepters = tt;
      proposed = λ d y. cc;
    })
act_evident p w w' q st c s sent new (Proposes act) t = record { phase = λ k vs o acs h. go k vs o acs (sym h ∙ act.phase) }
  where
    go : (k : Content) (vs : List CountedVote) (o : Option Choice) (acs : List ℕ) →
        Prepared k vs o acs ≡ Prepared act.content act.votes (Some act.choice) [] → Evidence p.replicas w' s.exec k vs o acs
    go k vs o acs z = let old = t.phase act.content act.votes None act.accepts act.before in let z1 : k ≡ act.content = cc in let z2 : vs ≡ act.votes = cc in let z3 : o ≡ Some act.choice = cc in let z4 : acs ≡ [] = cc in rw (z1, z2, z3, z4, act.exec) (record {
      prepare = old.prepare;
      ballot = old.ballot;
      voters = old.voters;
      accept = λ i n. absurd n;
      accepters = tt;
      proposed = λ g y. let y1 : act.choice ≡ g = cc in rw (← y1) (new (Finalize (w.client c).exec 0 act.choice (content_for act.content act.choice)) (rw act.sends (inl refl)));
    })
act_evident p w w' q st c s sent new (Accepts act) t = record { phase = λ k vs o acs h. go k vs o acs (sym h ∙ act.phase) }
  where
    heard : AcceptedFact (w'.replica act.replica) (w.client c).exec 0
    heard = accepted_fact_grows p w w' st _ 0 act.replica (subst (RFact act.replica (w.replica act.replica)) act.got.4 ((facts_reach p w q).said act.got.0 act.replica act.got.1 act.got.3))

    go : (k : Content) (vs : List CountedVote) (o : Option Choice) (acs : List ℕ) →
        Prepared k vs o acs ≡ Prepared act.content act.votes (Some act.choice) (act.accepts ++ act.replica ∷ []) → Evidence p.replicas w' s.exec k vs o acs
    go k vs o acs z = let old = t.phase act.content act.votes (Some act.choice) act.accepts act.before in let z1 : k ≡ act.content = cc in let z2 : vs ≡ act.votes = cc in let z3 : o ≡ Some act.choice = cc in let z4 : acs ≡ act.accepts ++ act.replica ∷ [] = cc in rw (z1, z2, z3, z4, act.exec) (record {
      prepare = old.prepare;
      ballot = old.ballot;
      voters = old.voters;
      accept = λ x i. elim (IsIn-cases x act.accepts (act.replica ∷ []) i) [ inl m ↦ old.accept x m | inr m ↦ elim m [ inl y ↦ rw y (act.range, heard) | inr y ↦ absurd y ] ];
      accepters = distinct_more act.accepts act.replica old.accepters (absent_id act.replica act.accepts act.fresh);
      proposed = old.proposed;
    })
act_evident p w w' q st c s sent new (Decides act) t = record { phase = λ k vs o acs h. cc }
act_evident p w w' q st c s sent new (Gives_up act) t = record { phase = λ k vs o acs h. cc }
act_evident p w w' q st c s sent new (Learns act) t = record { phase = λ k vs o acs h. cc }

evident_grows : (p : Plan) (w w' : World) → Step p w w' → (s : ClientState) → Evident p.replicas w s → Evident p.replicas w' s
evident_grows p w w' st s t = record { phase = λ k vs o acs h. evidence_grows p w w' st s.exec k vs o acs (t.phase k vs o acs h) }

to_all_one : (n : ℕ) (from : NodeId) (bs : List Body) (b : Body) → 0 < n → IsIn b bs → (e : Envelope) × IsIn e (flat_map (to_all n from) bs) × (e.body ≡ b)
to_all_one n from [] b l i = absurd i
to_all_one n from (c ∷ bs) b l (inl e) = (record { from = from; to = Replica 1; body = c }, IsIn-left _ (to_all n from c) _ (map_in (λ r. record { from = from; to = Replica r; body = c }) (upto n) 1 (upto_in n 1 (omega arith) (omega (arith, l)))), sym e)
to_all_one n from (c ∷ bs) b l (inr i) = let k = to_all_one n from bs b l i in (k.0, IsIn-right k.0 (to_all n from c) _ k.1, k.2)

-- what an act sends is in the mail
act_sent : (p : Plan) (w w' : World) (s : ByClientAct p w w') → 0 < p.replicas → (b : Body) → IsIn b s.sent → WasSent w' b
act_sent p w w' s pos b i = let k = to_all_one p.replicas (Client s.c) s.sent b pos i in record { envelope = k.0; there = rw s.mail (IsIn-right k.0 w.mail _ k.1); body = k.2 }

pub evident_reach : (p : Plan) → 0 < p.replicas → (w : World) → Reach p w → (c : ℕ) → Evident p.replicas w (w.client c)
evident_reach p pos = on_clients p (λ w c s. Evident p.replicas w s) (λ c. record { phase = λ k vs o acs h. cc }) (λ w w' st c. evident_grows p w w' st)
    (λ w w' q s. act_evident p w w' q (Client_acts s) s.c s.state s.sent (act_sent p w w' s pos) s.act)

-- a client's decision was sent
pub record DecisionsSent (w : World) (s : ClientState) : Type 0 where
  pub sent : (d : Decision) → IsIn d s.decisions → (o : Option Content) × WasSent w (Decide d.exec d.choice o)

decisions_grow : (p : Plan) (w w' : World) → Step p w w' → (s : ClientState) → DecisionsSent w s → DecisionsSent w' s
decisions_grow p w w' st s t = record { sent = λ d i. let k = t.sent d i in (k.0, sent_grows p w w' st _ k.1) }

act_decisions : (p : Plan) (w w' : World) → Step p w w' → (c : ℕ) (s : ClientState) (sent : List Body) → ((b : Body) → IsIn b sent → WasSent w' b) →
    ClientAct (rules p c) (GotAt w c) (w.client c) s sent → DecisionsSent w' (w.client c) → DecisionsSent w' s
act_decisions p w w' st c s sent new a t = go a
  where
    same : s.decisions ≡ (w.client c).decisions → DecisionsSent w' s
    same e = record { sent = λ d i. t.sent d (rw (← e) i) }

    more : (n : Decision) → s.decisions ≡ n ∷ (w.client c).decisions → (o : Option Content) → WasSent w' (Decide n.exec n.choice o) → DecisionsSent w' s
    more n e o f = record { sent = λ d i. elim (rw e at i) [ inl z ↦ rw z (o, f) | inr j ↦ t.sent d j ] }

    go : ClientAct (rules p c) (GotAt w c) (w.client c) s sent → DecisionsSent w' s
    go (Quiet act) = same act.decisions
    go (Advances act) = same act.decisions
    go (Prepares act) = same act.decisions
    go (Counts act) = same act.decisions
    go (Proposes act) = same act.decisions
    go (Accepts act) = same act.decisions
    go (Decides act) = more (record { exec = (w.client c).exec; choice = act.choice }) act.decisions (content_for act.content act.choice) (new (Decide (w.client c).exec act.choice (content_for act.content act.choice)) (rw act.sends (inl refl)))
    go (Gives_up act) =
        more (record { exec = (w.client c).exec; choice = Abandon }) act.decisions None (new (Decide (w.client c).exec Abandon None) (rw act.sends (inl refl)))
    go (Learns act) = more (record { exec = (w.client c).exec; choice = act.choice }) act.decisions act.content (sent_grows p w w' st _ (record { envelope = act.got.0; there = act.got.1; body = act.got.4 }))

pub decisions_reach : (p : Plan) → 0 < p.replicas → (w : World) → Reach p w → (c : ℕ) → DecisionsSent w (w.client c)
decisions_reach p pos = on_clients p (λ w c. DecisionsSent w) (λ c. record { sent = λ d i. absurd i }) (λ w w' st c. decisions_grow p w w' st)
    (λ w w' q s. act_decisions p w w' (Client_acts s) s.c s.state s.sent (act_sent p w w' s pos) s.act)

-- A step keeps what proposals follow, and locks what is decided in it.
use Rattle.std.proofs.Common.{[], ◌≡◌, ℕ, ◌<◌, ◌≤◌, ◌+◌, ◌*◌, ◌⊎◌, inl, inr, refl, ap, sym, ◌∙◌, subst, List, ◌∷◌, Option, Some, None, length, arith}
use Rattle.std.specs.Prelude.{map}
use Rattle.protocol.specs.Words.{Exec, Client, Envelope, Body, Content, Commit, Final, Choice, Abandon, ToCommit, Prepare, Finalize, Decide}
use Rattle.protocol.specs.Lists.{IsIn}
use Rattle.protocol.specs.Replica.Taken.{Handled}
use Rattle.protocol.specs.Replica.Votes.{vote, is_commit_vote}
use Rattle.protocol.specs.Client.State.{ClientState, Phase, CountedVote}
use Rattle.protocol.specs.Quorums.{quorum, Quorum, HasNoRepeats}
use Rattle.protocol.specs.Client.Counting.{count_votes}
use Rattle.protocol.specs.Client.Deciding.{content_for}
use Rattle.protocol.specs.Client.State.Phase.{Between, Prepared}
use Rattle.protocol.specs.Warden.State.{ToldAnswer, Proposal, WardenState}
use Rattle.protocol.specs.Warden.Recovery.{fixed}
use Rattle.protocol.specs.World.State.{Plan, World, rules, warden_rules}
use Rattle.protocol.specs.World.Decided.{WasSent}
use Rattle.protocol.proofs.ListsLemmas.{IsIn-cases, at_same}
use Rattle.law_steps.specs.Executions.{Over}
use Rattle.law_steps.proofs.PhaseLemmas.{running_under_way, prepared_under_way, running_between, open_between}
use Rattle.law_steps.proofs.ClientActs.{IsRunning, IsUnderWay, IsOpen}
use Rattle.law_steps.proofs.ClientActs.Reason.{All_commit, One_final, By_quorum}
use Rattle.law_steps.proofs.Reach.{Step, Reach, ByClientAct, ByWardenAct, GotAt, HeardAt}
use Rattle.law_steps.proofs.Reach.Step.{Warden_acts}
use Rattle.law_steps.proofs.Reach.From.{Next}
use Rattle.law_steps.proofs.ReplicaFacts.{AcceptedFact, ToldFact}
use Rattle.law_steps.proofs.SendingLemmas.{from_to_all}
use Rattle.law_steps.proofs.ClientFacts.{At, HasPrepared, HasProposed, rec_reach, said_new, not_at, running_prepared, open_proposed}
use Rattle.law_steps.proofs.WardenFacts.{WFact, round_found}
use Rattle.law_steps.proofs.Senders.{prepare_from, final_from, FinalFrom, warden_view}
use Rattle.law_steps.proofs.ClientSent.{ProposalOf, in_single, proposal_of, DecisionOf, decision_of, Weighed, Gave_up}
use Rattle.law_steps.proofs.Senders.FinalFrom.{By_client, By_warden}
use Rattle.law_steps.proofs.Origin.{Origin, origin}
use Rattle.law_steps.proofs.Origin.Origin.{Old, Of_replica, Of_client, Of_warden}
use Rattle.law_steps.proofs.ClientSent.DecisionOf.{Weighed, Gave_up}
use Rattle.law_safety.specs.Locks.{VotedCommit, HasAccepted, ClientDecided, Shut, AbandonLock, CommitLock}
use Rattle.law_safety.specs.Locks.Shut.{Unsent}
use Rattle.law_safety.specs.Locks.AbandonLock.{Accepted_abandon, All_shut}
use Rattle.law_safety.specs.Locks.CommitLock.{Accepted_commit, Fast}
use Rattle.law_safety.proofs.LocksLemmas.{sent_grows, Closed, Proposals, quorum_map, voted_grows}
use Rattle.law_safety.proofs.LocksStay.{CommitGround, shut_stays, closed_stays, abandon_lock_stays, commit_lock_stays}
use Rattle.law_safety.proofs.ClientEvidence.{evident_reach}
use Rattle.law_safety.proofs.WardenEvidence.{PartFact, ward_reach}
use Rattle.law_safety.proofs.Invariant.{Safe}
use Rattle.law_safety.proofs.ChoiceOfTolds.{fixed_chosen, chosen_below, chosen_abandon, chosen_commit}
use Rattle.law_safety.proofs.CountedQuorums.{commit_quorum, all_voted, a_final, accept_quorum, everyone}
use Rattle.law_safety.proofs.WardenSent.{DecidedRound, ward_decided}

-- the tolds behind a warden's Finalize, as they are before the step in which it is sent
pub record Behind (p : Plan) (w : World) (x : Exec) (v : ℕ) (d : Choice) : Type 0 where
  pub tolds : List ToldAnswer
  pub facts : (t : ToldAnswer) → IsIn t tolds → PartFact p.replicas w x v t
  pub distinct : HasNoRepeats (map (λ (t : ToldAnswer). t.replica) tolds)
  pub many : quorum p.replicas ≤ length tolds
  pub choice : (fixed tolds).choice ≡ d

module _ (p : Plan) (pos : 0 < p.replicas) (w w' : World) (q : Reach p w) (commit_ground : CommitGround w) where
  behind : (ws : ByWardenAct p w w') → (x : Exec) (v : ℕ) (d : Choice) (o : Option Content) → WFact p.wardens ws.k (w'.warden ws.k) (Finalize x v d o) →
      Behind p w x v d
  behind ws x v d o f =
      let g = round_found x v (w'.warden ws.k).rounds f.1.0 f.1.1 in
      let e = (ward_reach p pos w' (Next w w' q (Warden_acts ws)) ws.k).round f.1.0 g.0 in
      let c = e.fixed (record { choice = d; content = o }) f.1.2 in
      record {
        tolds = f.1.0.tolds;
        facts = λ t i. let h = e.told t i in (h.0, subst (λ (z : Exec). ToldFact (w.replica t.replica) z v t.vote t.accepted t.decided t.content) g.1 (subst (λ (z : ℕ). ToldFact (w.replica t.replica) f.1.0.exec z t.vote t.accepted t.decided t.content) g.2 (subst (λ (z : ℕ → Handled). ToldFact (z t.replica) f.1.0.exec f.1.0.view t.vote t.accepted t.decided t.content) ws.replica h.1)));
        distinct = e.tellers;
        many = c.1;
        choice = sym (ap (λ (y : Proposal). y.choice) c.0);
      }

  -- proposals
  pub proposals_step : (st : Step p w w') → Safe p.replicas w → Proposals p.replicas w'
  proposals_step st s = record {
    commit = λ x v o t. commit_go x v o (origin p w w' q st _ t);
    abandon = λ x v o t. abandon_go x v o t (origin p w w' q st _ t);
    below = λ x v d o t u l. below_go x v d o u l (origin p w w' q st _ t);
  }
    where
      mine : (cs : ByClientAct p w w') (x : Exec) (v : ℕ) (d : Choice) (o : Option Content) → IsIn (Finalize x v d o) cs.sent →
          ProposalOf p.replicas (w.client cs.c) x v d
      mine cs x v d o i = proposal_of (rules p cs.c) (GotAt w cs.c) (w.client cs.c) cs.state cs.sent cs.act x v d o i

      commit_go : (x : Exec) (v : ℕ) (o : Option Content) → Origin p w w' (Finalize x v ToCommit o) → Quorum p.replicas (VotedCommit w' x)
      commit_go x v o (Old t) = quorum_map p.replicas _ _ (λ r h. voted_grows p w w' st x Commit r h) (s.proposals.commit x v o t)
      commit_go x v o (Of_replica r f) = absurd f
      commit_go x v o (Of_client cs i) = let m = mine cs x v ToCommit o i in
          let e = (evident_reach p pos w q cs.c).phase m.k m.votes None m.accepts m.phase in
          quorum_map p.replicas _ _ (λ r h. voted_grows p w w' st x Commit r (subst (λ z. VotedCommit w z r) (sym m.exec) h)) (commit_quorum p.replicas w _ m.k m.votes None m.accepts e (m.enough refl))
      commit_go x v o (Of_warden ws a i e f) = let b = behind ws x v ToCommit o f in
          quorum_map p.replicas _ _ (λ r h. voted_grows p w w' st x Commit r h) (chosen_commit p w q s x v b.tolds b.facts b.distinct b.many (sym (fixed_chosen p w q s x v b.tolds b.facts b.distinct b.many) ∙ b.choice))

      shut_go : (x : Exec) → ((u : Option Content) × WasSent w (Finalize x 0 Abandon u)) ⊎ ((r : ℕ) × (0 < r) × (r ≤ p.replicas) × Shut w x r) →
          ((u : Option Content) × WasSent w' (Finalize x 0 Abandon u)) ⊎ ((r : ℕ) × (0 < r) × (r ≤ p.replicas) × Shut w' x r)
      shut_go x (inl z) = inl (z.0, sent_grows p w w' st _ z.1)
      shut_go x (inr z) = inr (z.0, z.1, z.2, shut_stays p w w' q st commit_ground x z.0 z.3)

      abandon_go : (x : Exec) (v : ℕ) (o : Option Content) → WasSent w' (Finalize x v Abandon o) → Origin p w w' (Finalize x v Abandon o) →
          ((u : Option Content) × WasSent w' (Finalize x 0 Abandon u)) ⊎ ((r : ℕ) × (0 < r) × (r ≤ p.replicas) × Shut w' x r)
      abandon_go x v o t (Old z) = shut_go x (s.proposals.abandon x v o z)
      abandon_go x v o t (Of_replica r f) = absurd f
      abandon_go x v o t (Of_client cs i) = let m = mine cs x v Abandon o i in inl (o, subst (λ z. WasSent w' (Finalize x z Abandon o)) m.view t)
      abandon_go x v o t (Of_warden ws a i e f) = let b = behind ws x v Abandon o f in
          shut_go x (chosen_abandon p w q s x v b.tolds b.facts b.distinct b.many (sym (fixed_chosen p w q s x v b.tolds b.facts b.distinct b.many) ∙ b.choice))

      below_go : (x : Exec) (v : ℕ) (d : Choice) (o : Option Content) (u : ℕ) → u < v → Origin p w w' (Finalize x v d o) → Closed p.replicas w' x u d
      below_go x v d o u l (Old z) = closed_stays p w w' st x u d (s.proposals.below x v d o z u l)
      below_go x v d o u l (Of_replica r f) = absurd f
      below_go x v d o u l (Of_client cs i) = let m = mine cs x v d o i in let z = m.view in absurd (omega (arith, z, l))
      below_go x v d o u l (Of_warden ws a i e f) = let b = behind ws x v d o f in
          closed_stays p w w' st x u d (subst (λ z. Closed p.replicas w x u z) (sym (fixed_chosen p w q s x v b.tolds b.facts b.distinct b.many) ∙ b.choice) (chosen_below p w q s x v b.tolds b.facts b.distinct b.many u l))

module _ (p : Plan) (pos : 0 < p.replicas) (w w' : World) (q : Reach p w) (commit_ground : CommitGround w) (st : Step p w w') (s : Safe p.replicas w) where
  next : Reach p w'
  next = Next w w' q st

  sent_before : (cs : ByClientAct p w w') (b c : Body) → cs.sent ≡ c ∷ [] → (b ≡ c → ⊥) → WasSent w' b → WasSent w b
  sent_before cs b c e n t = elim (IsIn-cases t.envelope w.mail _ (subst (λ (l : List Envelope). IsIn t.envelope l) cs.mail t.there)) [
    | inl i ↦ record { envelope = t.envelope; there = i; body = t.body }
    | inr i ↦ absurd (n (sym t.body ∙ in_single cs.sent c t.envelope.body e (from_to_all p.replicas (Client cs.c) cs.sent t.envelope i).1))
  ]

  own : (cs : ByClientAct p w w') (x : Exec) → x ≡ (w.client cs.c).exec → IsUnderWay (w.client cs.c).phase → x.ver.client ≡ cs.c
  own cs x e u = ap (λ (z : Exec). z.ver.client) e ∙ (rec_reach p w q cs.c).own u

  over_now : (cs : ByClientAct p w w') (x : Exec) → x ≡ (w.client cs.c).exec → IsUnderWay (w.client cs.c).phase → cs.state.exec ≡ (w.client cs.c).exec →
      cs.state.phase ≡ Between → Over x (w'.client x.ver.client)
  over_now cs x e u f g = subst (λ (c : ℕ). Over x (w'.client c)) (sym (own cs x e u)) (subst (λ (h : ℕ → ClientState). Over x (h cs.c)) (sym cs.client) (subst (λ (z : ClientState). Over x z) (sym (at_same cs.c cs.state w.client)) (inr (e ∙ sym f, g))))

  -- the client decides it now
  decides_now : (cs : ByClientAct p w w') (x : Exec) (d : Choice) (o : Option Content) → x ≡ (w.client cs.c).exec → IsUnderWay (w.client cs.c).phase →
      cs.sent ≡ Decide x d o ∷ [] → ClientDecided w' x d
  decides_now cs x d o e u q' =
      let here : IsIn (record { exec = x; choice = d }) cs.state.decisions = said_new (rules p cs.c) (GotAt w cs.c) (w.client cs.c) cs.state cs.sent (rec_reach p w q cs.c) cs.act (Decide x d o) (subst (λ (l : List Body). IsIn (Decide x d o) l) (sym q') (inl refl)) in
      subst (λ (c : ℕ). IsIn (record { exec = x; choice = d }) (w'.client c).decisions) (sym (own cs x e u))
      (subst (λ (h : ℕ → ClientState). IsIn (record { exec = x; choice = d }) (h cs.c).decisions) (sym cs.client)
      (subst (λ (z : ClientState). IsIn (record { exec = x; choice = d }) z.decisions) (sym (at_same cs.c cs.state w.client)) here))

  -- the client gave up: nothing of x was prepared, and nothing will be
  gave_up : (cs : ByClientAct p w w') (x : Exec) (k' : Option Content) → IsRunning (w.client cs.c).phase → x ≡ (w.client cs.c).exec →
      cs.state.exec ≡ (w.client cs.c).exec → cs.state.phase ≡ Between → cs.sent ≡ Decide x Abandon k' ∷ [] → AbandonLock p.replicas w' x
  gave_up cs x k' run e f g sent = All_shut (everyone p.replicas _ pos (λ r a b. Unsent (λ k t. unsent k (sent_before cs (Prepare x k) _ sent (λ z. cc) t)) (over_now cs x e (running_under_way _ run) f g)))
    where
      unsent : (k : Content) → WasSent w (Prepare x k) → ⊥
      unsent k t = let h = prepare_from p w q t.envelope x k t.there t.body in
          not_at (HasPrepared k) x (w.client cs.c) e (running_between _ run) (running_prepared k _ run) (subst (λ (c : ℕ). At (HasPrepared k) x (w.client c)) (own cs x e (running_under_way _ run)) h.1)

  open_prepared : (z : Phase) (k : Content) (vs : List CountedVote) (acs : List ℕ) → z ≡ Prepared k vs None acs → IsOpen z
  open_prepared z k vs acs e = subst IsOpen (sym e) tt

  -- all voted Commit, and the client proposed nothing
  fast : (cs : ByClientAct p w w') (x : Exec) (k' : Option Content) (k : Content) (vs : List CountedVote) (acs : List ℕ) →
      (w.client cs.c).phase ≡ Prepared k vs None acs → p.replicas ≤ count_votes is_commit_vote vs → x ≡ (w.client cs.c).exec →
      cs.state.exec ≡ (w.client cs.c).exec → cs.state.phase ≡ Between → cs.sent ≡ Decide x ToCommit k' ∷ [] →
      CommitLock p.replicas w' x × Quorum p.replicas (VotedCommit w' x)
  fast cs x k' k vs acs ph l e f g sent = (Fast voted (decides_now cs x ToCommit k' e (prepared_under_way _ k vs None acs ph) sent) (λ d o t. unproposed d o (sent_before cs (Finalize x 0 d o) _ sent (λ z. cc) t)), everyone p.replicas _ pos voted)
    where
      voted : (r : ℕ) → 0 < r → r ≤ p.replicas → VotedCommit w' x r
      voted r a b = voted_grows p w w' st x Commit r (subst (λ (z : Exec). VotedCommit w z r) (sym e) (all_voted p.replicas w _ k vs None acs ((evident_reach p pos w q cs.c).phase k vs None acs ph) l r a b))

      unproposed : (d : Choice) (o : Option Content) → WasSent w (Finalize x 0 d o) → ⊥
      unproposed d o t = go (final_from p w q t.envelope x 0 d o t.there t.body)
        where
          go : FinalFrom p w t.envelope x 0 d o → ⊥
          go (By_client m z h) = not_at (HasProposed d o) x (w.client cs.c) e (open_between _ (open_prepared _ k vs acs ph)) (open_proposed d o _ (open_prepared _ k vs acs ph)) (subst (λ (c : ℕ). At (HasProposed d o) x (w.client c)) (own cs x e (prepared_under_way _ k vs None acs ph)) h)
          go (By_warden j z range a h i) = let v = warden_view p w q j x 0 a h in let y : 0 ≡ j + v.0 * p.wardens = v.1 in let l = range.0 in omega (arith, y, l)

  -- a quorum accepted the client's proposal
  weighed : (cs : ByClientAct p w w') (x : Exec) (d : Choice) (k : Content) (vs : List CountedVote) (o : Option Choice) (acs : List ℕ) →
      (w.client cs.c).phase ≡ Prepared k vs o acs → o ≡ Some d → quorum p.replicas ≤ length acs → x ≡ (w.client cs.c).exec →
      Quorum p.replicas (HasAccepted w x 0 d) × WasSent w (Finalize x 0 d (content_for k d))
  weighed cs x d k vs o acs ph od l e =
      let ev = (evident_reach p pos w q cs.c).phase k vs o acs ph in
      let sent : WasSent w (Finalize x 0 d (content_for k d)) = subst (λ (z : Exec). WasSent w (Finalize z 0 d (content_for k d))) (sym e) (ev.proposed d od) in
      (accept_quorum p w q x 0 d (content_for k d) acs ev.accepters (λ j i. subst (λ (z : Exec). ((0 < j) × (j ≤ p.replicas)) × AcceptedFact (w.replica j) z 0) (sym e) (ev.accept j i)) l sent, sent)

  -- a quorum accepted the warden's proposal
  round_decided : (ws : ByWardenAct p w w') (x : Exec) (d : Choice) (o : Option Content) → DecidedRound p.replicas ws.state x d o →
      (v : ℕ) × (o : Option Content) × Quorum p.replicas (HasAccepted w' x v d) × WasSent w' (Finalize x v d o)
  round_decided ws x d o r =
      let here : IsIn r.0 (w'.warden ws.k).rounds = subst (λ (h : ℕ → WardenState). IsIn r.0 (h ws.k).rounds) (sym ws.warden) (subst (λ (z : WardenState). IsIn r.0 z.rounds) (sym (at_same ws.k ws.state w.warden)) r.1) in
      let ev = (ward_reach p pos w' next ws.k).round r.0 here in
      let sent : WasSent w' (Finalize x r.0.view d r.3.0.content) = subst (λ (z : Exec). WasSent w' (Finalize z r.0.view d r.3.0.content)) r.2 (subst (λ (z : Choice). WasSent w' (Finalize r.0.exec r.0.view z r.3.0.content)) r.3.2 (ev.proposed r.3.0 r.3.1)) in
      (r.0.view, r.3.0.content, accept_quorum p w' next x r.0.view d r.3.0.content r.0.accepts ev.accepters (λ j i. subst (λ (z : Exec). ((0 < j) × (j ≤ p.replicas)) × AcceptedFact (w'.replica j) z r.0.view) r.2 (ev.accept j i)) r.3.3 sent, sent)

  pub abandoned_step : (x : Exec) (o : Option Content) → WasSent w' (Decide x Abandon o) → AbandonLock p.replicas w' x
  abandoned_step x o t = go (origin p w w' q st _ t)
    where
      client : (cs : ByClientAct p w w') → DecisionOf p.replicas (w.client cs.c) cs.state cs.sent x Abandon → AbandonLock p.replicas w' x
      client cs (Weighed k vs u acs ph (All_commit a b c) e f g k' z) = cc
      client cs (Weighed k vs u acs ph (One_final a b c) e f g k' z) =
          let v = a_final p.replicas w _ k vs u acs ((evident_reach p pos w q cs.c).phase k vs u acs ph) c in
          abandon_lock_stays p w w' q st commit_ground x (s.final x v.0 (subst (λ (y : Exec). vote (w.replica v.0) y ≡ Some Final) (sym e) v.1))
      client cs (Weighed k vs u acs ph (By_quorum a b) e f g k' z) =
          abandon_lock_stays p w w' q st commit_ground x (Accepted_abandon 0 (weighed cs x Abandon k vs u acs ph a b e).0)
      client cs (Gave_up run d e f g k' z) = gave_up cs x k' run e f g z

      go : Origin p w w' (Decide x Abandon o) → AbandonLock p.replicas w' x
      go (Old z) = abandon_lock_stays p w w' q st commit_ground x (s.abandoned x o z)
      go (Of_replica r f) = absurd f
      go (Of_client cs i) = client cs (decision_of (rules p cs.c) (GotAt w cs.c) (w.client cs.c) cs.state cs.sent cs.act x Abandon o i)
      go (Of_warden ws a i e f) = let r = round_decided ws x Abandon o (ward_decided (warden_rules p ws.k) (HeardAt w ws.k) (w.warden ws.k) ws.state ws.sent ws.act a x Abandon o i e) in Accepted_abandon r.0 r.2

  pub committed_step : (x : Exec) (o : Option Content) → WasSent w' (Decide x ToCommit o) → CommitLock p.replicas w' x × Quorum p.replicas (VotedCommit w' x)
  committed_step x o t = go (origin p w w' q st _ t)
    where
      more : Quorum p.replicas (VotedCommit w x) → Quorum p.replicas (VotedCommit w' x)
      more a = quorum_map p.replicas _ _ (λ r h. voted_grows p w w' st x Commit r h) a

      client : (cs : ByClientAct p w w') → DecisionOf p.replicas (w.client cs.c) cs.state cs.sent x ToCommit →
          CommitLock p.replicas w' x × Quorum p.replicas (VotedCommit w' x)
      client cs (Weighed k vs u acs ph (All_commit a b c) e f g k' z) =
          fast cs x k' k vs acs (subst (λ (y : Option Choice). (w.client cs.c).phase ≡ Prepared k vs y acs) a ph) c e f g z
      client cs (Weighed k vs u acs ph (One_final a b c) e f g k' z) = cc
      client cs (Weighed k vs u acs ph (By_quorum a b) e f g k' z) = let h = weighed cs x ToCommit k vs u acs ph a b e in (commit_lock_stays p w w' q st x (Accepted_commit 0 h.0), more (s.proposals.commit x 0 _ h.1))
      client cs (Gave_up run d e f g k' z) = cc

      go : Origin p w w' (Decide x ToCommit o) → CommitLock p.replicas w' x × Quorum p.replicas (VotedCommit w' x)
      go (Old z) = let h = s.committed x o z in (commit_lock_stays p w w' q st x h.0, more h.1)
      go (Of_replica r f) = absurd f
      go (Of_client cs i) = client cs (decision_of (rules p cs.c) (GotAt w cs.c) (w.client cs.c) cs.state cs.sent cs.act x ToCommit o i)
      go (Of_warden ws a i e f) = let r = round_decided ws x ToCommit o (ward_decided (warden_rules p ws.k) (HeardAt w ws.k) (w.warden ws.k) ws.state ws.sent ws.act a x ToCommit o i e) in
          (Accepted_commit r.0 r.2, (proposals_step p pos w w' q commit_ground st s).commit x r.0 r.1 r.3)

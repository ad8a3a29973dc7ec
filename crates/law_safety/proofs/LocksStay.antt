-- A replica that is shut to an execution stays so, and what is locked stays locked.
use Rattle.std.proofs.Common.{◌≡◌, ℕ, ◌<◌, ◌≤◌, ◌+◌, ◌*◌, ◌≢◌, inl, inr, refl, sym, ◌∙◌, subst, true, false, Bool, cond, List, ◌∷◌, Option, Some, None, arith}
use Rattle.std.specs.Prelude.{◌==◌}
use Rattle.std.specs.Option.{is_none}
use Rattle.protocol.specs.Words.{Exec, Envelope, Body, Content, Commit, Choice, Abandon, ToCommit, Prepare, Finalize, Decide, Kept}
use Rattle.protocol.specs.Lists.{IsIn}
use Rattle.protocol.specs.Replica.Taken.{Handled, takes, after_taking, dropped, fence, fenced_by, is_above, version_of}
use Rattle.protocol.specs.Replica.Acceptor.{promised, Acceptance, acceptances, new_acceptance, decided, commits}
use Rattle.protocol.specs.Replica.Votes.{casts, cast_on, new_cast, vote, Cast, may_vote, verdict, conflicts}
use Rattle.protocol.specs.Client.State.{ClientState}
use Rattle.protocol.specs.Client.State.Phase.{Between}
use Rattle.protocol.specs.World.State.{Plan, World, rules}
use Rattle.protocol.specs.World.Decided.{UpTo, WasSent}
use Rattle.protocol.specs.World.Steps.{ByReplica}
use Rattle.protocol.proofs.TestLemmas.{true_false, and_right, some_not_none}
use Rattle.protocol.proofs.ReplicaGrows.{decided_stays, promised_grows, later_left}
use Rattle.protocol.proofs.ListsLemmas.{IsIn-right, IsIn-cases}
use Rattle.protocol.proofs.NamesLemmas.{up_to_trans}
use Rattle.law_steps.specs.Executions.{IsEarlier, Over}
use Rattle.law_steps.proofs.AcceptorLemmas.{vote_stands, vote_frozen, new_acceptance_is}
use Rattle.law_steps.proofs.PhaseLemmas.{running_under_way, open_under, running_between, open_between}
use Rattle.law_steps.proofs.Reach.{Step, Reach, GotAt}
use Rattle.law_steps.proofs.Reach.From.{Next}
use Rattle.law_steps.proofs.ReplicaFacts.{well_reach, taking_reach}
use Rattle.law_steps.proofs.VotesLemmas.{new_vote, verdict_commit, earlier_settled}
use Rattle.law_steps.proofs.MailLemmas.{took_reach}
use Rattle.law_steps.proofs.TakenLemmas.{takes_above, cast_above_none}
use Rattle.law_steps.proofs.ClientFacts.{act_over, rec_reach, said_stays}
use Rattle.law_steps.proofs.ClientSent.{sent_prepare, sent_finalize}
use Rattle.law_steps.proofs.ExecutionsLemmas.{earlier_itself}
use Rattle.law_steps.proofs.Senders.{warden_view}
use Rattle.law_steps.proofs.Origin.{Origin, origin}
use Rattle.law_steps.proofs.Origin.Origin.{Old, Of_replica, Of_client, Of_warden}
use Rattle.law_steps.proofs.Induction.{client_in_step, replica_in_step}
use Rattle.law_safety.specs.Locks.{Shut, AbandonLock, CommitLock}
use Rattle.law_safety.specs.Locks.Shut.{Voted_other, Has_promised, Has_decided, Fenced_out, Unsent, Conflicting}
use Rattle.law_safety.specs.Locks.AbandonLock.{Accepted_abandon, All_shut}
use Rattle.law_safety.specs.Locks.CommitLock.{Accepted_commit, Fast}
use Rattle.law_safety.proofs.WardenEvidence.{decided_sent}
use Rattle.law_safety.proofs.BaseEntries.{Bases, dropped_conflict}
use Rattle.law_safety.proofs.OneProposal.{one_reach}
use Rattle.law_safety.proofs.LocksLemmas.{sent_grows, Closed, replica_grows, voted_grows, accepted_grows, quorum_map, cast_prepare}

-- what a client decided stays
pub decision_grows : (p : Plan) (w w' : World) → Step p w w' → (c : ℕ) (x : Exec) (d : Choice) →
    IsIn (record { exec = x; choice = d }) (w.client c).decisions → IsIn (record { exec = x; choice = d }) (w'.client c).decisions
decision_grows p w w' st c x d = client_in_step p w w' st (λ c s. IsIn (record { exec = x; choice = d }) s.decisions)
    (λ s. said_stays (rules p s.c) (GotAt w s.c) (w.client s.c) s.state s.sent s.act (Decide x d None)) c

-- what is over stays over
pub over_grows : (p : Plan) (w w' : World) → Step p w w' → (x : Exec) (c : ℕ) → Over x (w.client c) → Over x (w'.client c)
over_grows p w w' st x = client_in_step p w w' st (λ c. Over x) (λ s. act_over (rules p s.c) (GotAt w s.c) (w.client s.c) s.state s.sent s.act x)

not_over : (x : Exec) (s : ClientState) → x ≡ s.exec → (s.phase ≡ Between → ⊥) → Over x s → ⊥
not_over x s e b (inl h) = earlier_itself s.exec (subst (λ z. IsEarlier z s.exec) e h)
not_over x s e b (inr h) = b h.1

-- of what is over nothing is prepared any more, and nothing proposed by the client
pub no_prepare : (p : Plan) (w w' : World) → Reach p w → Step p w w' → (x : Exec) → Over x (w.client x.ver.client) → (k : Content) →
    WasSent w' (Prepare x k) → WasSent w (Prepare x k)
no_prepare p w w' q s x o k t = go (origin p w w' q s (Prepare x k) t)
  where
    go : Origin p w w' (Prepare x k) → WasSent w (Prepare x k)
    go (Old t) = t
    go (Of_replica r f) = absurd f
    go (Of_warden s a i e f) = absurd f
    go (Of_client s i) = let n = sent_prepare (rules p s.c) (GotAt w s.c) (w.client s.c) s.state s.sent s.act x k i in
        let mine : x.ver.client ≡ s.c = rw n.0 ((rec_reach p w q s.c).own (running_under_way _ n.1)) in
        absurd (not_over x (w.client s.c) n.0 (running_between _ n.1) (subst (λ z. Over x (w.client z)) mine o))

pub no_finalize : (p : Plan) (w w' : World) → Reach p w → Step p w w' → (x : Exec) → Over x (w.client x.ver.client) → (d : Choice) (u : Option Content) →
    WasSent w' (Finalize x 0 d u) → WasSent w (Finalize x 0 d u)
no_finalize p w w' q s x o d u t = go (origin p w w' q s (Finalize x 0 d u) t)
  where
    go : Origin p w w' (Finalize x 0 d u) → WasSent w (Finalize x 0 d u)
    go (Old t) = t
    go (Of_replica r f) = absurd f
    go (Of_warden a b i e f) = let v = warden_view p w' (Next w w' q s) a.k x 0 f.1.0 f.1.1 in let z : 0 ≡ a.k + v.0 * p.wardens = v.1 in let l = f.0.0 in absurd (omega (arith, z, l))
    go (Of_client s i) = let n = sent_finalize (rules p s.c) (GotAt w s.c) (w.client s.c) s.state s.sent s.act x 0 d u i in
        let mine : x.ver.client ≡ s.c = rw n.0 ((rec_reach p w q s.c).own (open_under _ n.1)) in
        absurd (not_over x (w.client s.c) n.0 (open_between _ n.1) (subst (λ z. Over x (w.client z)) mine o))

may_vote_undecided : (h : Handled) (old : List Cast) (z : Exec) → may_vote h old z ≡ true → is_none (decided h z) ≡ true
unfolding may_vote
may_vote_undecided h old z e = and_right (is_none (cast_on z old)) _ (and_right (promised h z == 0) _ e)

-- a vote that was not there and is not cast is not there
taking_cases_vote : (h : Handled) (m : Envelope) (x : Exec) → (vote h x ≢ Some Commit) → (takes h m.body ≡ true → vote (m ∷ h) x ≡ Some Commit → ⊥) →
    vote (after_taking h m) x ≢ Some Commit
unfolding after_taking
taking_cases_vote h m x n c = go (takes h m.body) refl
  where
    go : (t : Bool) → takes h m.body ≡ t → vote (cond t (m ∷ h) h) x ≢ Some Commit
    go true q e = c q e
    go false q e = n e

-- with a decision, nothing is voted any more
vote_frozen_decided : (h : Handled) (m : Envelope) (x : Exec) (d : Choice) → decided h x ≡ Some d → vote (m ∷ h) x ≡ vote h x
vote_frozen_decided h m x d p = vote_stands h m x (λ e. some_not_none (decided h x) d p (may_vote_undecided h (casts h) x e))

-- what the clause on conflicts needs of a world
pub record CommitGround (w : World) : Type 0 where
  pub agree : (y : Exec) (o u : Option Content) → WasSent w (Decide y Abandon o) → WasSent w (Decide y ToCommit u) → ⊥
  pub content : (r : ℕ) (c : Cast) → IsIn c (casts (w.replica r)) → (l : Kept) → IsIn l (commits (w.replica r)) → l.exec ≡ c.exec → l.content ≡ c.content
  pub bases : Bases w

-- a cast of a replica is on a Prepare in the mail
pub cast_sent : (p : Plan) (w : World) → Reach p w → (r : ℕ) (c : Cast) → IsIn c (casts (w.replica r)) → WasSent w (Prepare c.exec c.content)
cast_sent p w q r c i = let m = cast_prepare (w.replica r) c i in record { envelope = m.0; there = ((took_reach p w q).took r m.0 m.1).0; body = m.2 }

-- who voted Commit on something committed in conflict with x, and not on x, does not vote Commit on x
not_voted : (p : Plan) (w w' : World) → Reach p w → Step p w w' → CommitGround w → (x : Exec) (r : ℕ) (k : Content) → WasSent w (Prepare x k) → (c : Cast) →
    IsIn c (casts (w.replica r)) → c.vote ≡ Commit → conflicts x.ver k c.exec.ver c.content ≡ true → (o : Option Content) →
    WasSent w (Decide c.exec ToCommit o)
    → vote (w.replica r) x ≢ Some Commit → vote (w'.replica r) x ≢ Some Commit
not_voted p w w' q st a x r k t c i v f o d n = replica_in_step p w w' st (λ j h. j ≡ r → vote h x ≢ Some Commit) (λ s z. taken s) r (λ z. n) refl
  where
    cons : (m : Envelope) → IsIn m w.mail → takes (w.replica r) m.body ≡ true → vote (m ∷ w.replica r) x ≡ Some Commit → ⊥
    cons m there tk e = elim (new_vote (w.replica r) m x Commit e) [
      | inl z ↦ n z
      | inr z ↦ let same : z.0 ≡ k = (one_reach p w q).prepare m t.envelope x z.0 k there t.there z.1 t.body in
          let verd : verdict (w.replica r) (casts (w.replica r)) x k ≡ Commit =
          subst (λ (y : Content). verdict (w.replica r) (casts (w.replica r)) x y ≡ Commit) same z.2 in
          elim (earlier_settled (w.replica r) x k c (well_reach p w q r) (a.content r c i) i v f verd) [
            | inl g ↦ let b = decided_sent p w q c.exec Abandon r g in a.agree c.exec b.0 o b.1 d
            | inr u ↦ true_false (sym (dropped_conflict w a.bases (w.replica r) (λ n j. ((took_reach p w q).took r n j).0) x k
                (subst (λ (b : Body). is_above (dropped (w.replica r)) (version_of b) ≡ true) z.1 (takes_above (w.replica r) m.body tk))
                c.exec c.content o d (cast_sent p w q r c i) (cast_above_none (w.replica r) (taking_reach p w q r) c i) u f) ∙ (verdict_commit (w.replica r) (casts (w.replica r)) x k verd).base)
          ]
    ]

    taken : (s : ByReplica p w w') → s.r ≡ r → vote (after_taking (w.replica s.r) s.m) x ≢ Some Commit
    taken s e = subst (λ j. vote (after_taking (w.replica j) s.m) x ≢ Some Commit) (sym e) (taking_cases_vote (w.replica r) s.m x n (cons s.m s.in_mail))

-- with a fence nothing is voted Commit any more
fenced_vote : (h : Handled) (m : Envelope) (x : Exec) → vote h x ≢ Some Commit → UpTo x.ver (fence h) → vote (m ∷ h) x ≢ Some Commit
fenced_vote h m x n u e = elim (new_vote h m x Commit e) [
  | inl z ↦ n z
  | inr z ↦ true_false (sym (verdict_commit h (casts h) x z.0 z.2).above ∙ u)
]

-- who is shut stays shut
pub shut_stays : (p : Plan) (w w' : World) → Reach p w → Step p w w' → CommitGround w → (x : Exec) (r : ℕ) → Shut w x r → Shut w' x r
shut_stays p w w' q s a x r (Voted_other v n e) = Voted_other v n (voted_grows p w w' s x v r e)
shut_stays p w w' q s a x r (Has_promised n l) =
    let k = replica_grows p w w' s (λ h. (vote h x ≢ Some Commit) × (0 < promised h x)) (λ h m f. (λ e. f.0 (sym (vote_frozen h m x f.1) ∙ e), (let g = promised_grows h m x in let l = f.1 in omega (arith, g, l)))) r (n, l) in Has_promised k.0 k.1
shut_stays p w w' q s a x r (Has_decided n d l) =
    let k = replica_grows p w w' s (λ h. (vote h x ≢ Some Commit) × (decided h x ≡ Some d)) (λ h m f. (λ e. f.0 (sym (vote_frozen_decided h m x d f.1) ∙ e), decided_stays h m x d f.1)) r (n, l) in Has_decided k.0 d k.1
shut_stays p w w' q s a x r (Fenced_out n u) =
    let k = replica_grows p w w' s (λ h. (vote h x ≢ Some Commit) × UpTo x.ver (fence h)) (λ h m f. (fenced_vote h m x f.0 f.1, up_to_trans x.ver (fence h) (fence (m ∷ h)) f.1 (later_left (fence h) (fenced_by m.body)))) r (n, u) in Fenced_out k.0 k.1
shut_stays p w w' q s a x r (Unsent n o) = Unsent (λ k t. n k (no_prepare p w w' q s x o k t)) (over_grows p w w' s x x.ver.client o)
shut_stays p w w' q s a x r (Conflicting n k t c i v f o d) = Conflicting (not_voted p w w' q s a x r k t c i v f o d n) k (sent_grows p w w' s _ t) c
    (replica_grows p w w' s (λ h. IsIn c (casts h)) (λ h m j. IsIn-right c (new_cast h (casts h) m.body) (casts h) j) r i) v f o (sent_grows p w w' s _ d)

pub abandon_lock_stays : (p : Plan) (w w' : World) → Reach p w → Step p w w' → CommitGround w → (x : Exec) → AbandonLock p.replicas w x →
    AbandonLock p.replicas w' x
abandon_lock_stays p w w' q s c x (Accepted_abandon v a) = Accepted_abandon v (quorum_map _ _ _ (λ r h. accepted_grows p w w' s x v Abandon r h) a)
abandon_lock_stays p w w' q s c x (All_shut a) = All_shut (quorum_map _ _ _ (λ r h. shut_stays p w w' q s c x r h) a)

pub commit_lock_stays : (p : Plan) (w w' : World) → Reach p w → Step p w w' → (x : Exec) → CommitLock p.replicas w x → CommitLock p.replicas w' x
commit_lock_stays p w w' q s x (Accepted_commit v a) = Accepted_commit v (quorum_map _ _ _ (λ r h. accepted_grows p w w' s x v ToCommit r h) a)
commit_lock_stays p w w' q s x (Fast all decides none) =
    Fast (λ r a b. voted_grows p w w' s x Commit r (all r a b)) (decision_grows p w w' s x.ver.client x ToCommit decides)
    (λ d o t. none d o (no_finalize p w w' q s x ((rec_reach p w q x.ver.client).done (record { exec = x; choice = ToCommit }) decides).1 d o t))

-- a view that is promised is past: nothing more is accepted in it
closed_cons : (x : Exec) (u : ℕ) (d : Choice) (h : Handled) (m : Envelope) →
    (u < promised h x) × ((c : Choice) → (a : Acceptance) × IsIn a (acceptances h) × (a.exec ≡ x) × (a.view ≡ u) × (a.choice ≡ c) → c ≡ d) →
    (u < promised (m ∷ h) x) × ((c : Choice) → (a : Acceptance) × IsIn a (acceptances (m ∷ h)) × (a.exec ≡ x) × (a.view ≡ u) × (a.choice ≡ c) → c ≡ d)
closed_cons x u d h m f = (
  (let g = promised_grows h m x in let l = f.0 in omega (arith, g, l)),
  λ c a. elim (IsIn-cases a.0 (new_acceptance h m.body) (acceptances h) a.1) [
    | inl j ↦ let k = new_acceptance_is h m.body a.0 j in let low : promised h x ≤ a.0.view = subst (λ z. promised h z ≤ a.0.view) a.2 k.1 in let l = f.0 in let v = a.3 in absurd (omega (arith, low, l, v))
    | inr j ↦ f.1 c (a.0, j, a.2, a.3, a.4)
  ],
)

pub closed_stays : (p : Plan) (w w' : World) → Step p w w' → (x : Exec) (u : ℕ) (d : Choice) → Closed p.replicas w x u d → Closed p.replicas w' x u d
closed_stays p w w' s x u d q = quorum_map _ _ _ (λ r f. replica_grows p w w' s (λ h. (u < promised h x) × ((c : Choice) → (a : Acceptance) × IsIn a (acceptances h) × (a.exec ≡ x) × (a.view ≡ u) × (a.choice ≡ c) → c ≡ d)) (λ h m g. closed_cons x u d h m g) r f) q

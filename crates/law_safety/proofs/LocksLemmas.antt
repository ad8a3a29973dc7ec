-- What is locked both ways cannot be, and what a quorum accepted every later proposal carries.
use Rattle.std.proofs.Common.{◌≡◌, ℕ, ◌<◌, ◌≤◌, ◌⊎◌, ◌≢◌, inl, inr, refl, ap, sym, ◌∙◌, true, false, Bool, cond, List, [], ◌∷◌, Option, Some, arith}
use Rattle.std.specs.Prelude.{option_map}
use Rattle.protocol.specs.Words.{Exec, Envelope, Body, Content, Vote, Commit, Choice, Abandon, ToCommit, Prepare, Finalize, same_exec}
use Rattle.protocol.specs.Lists.{IsIn}
use Rattle.protocol.specs.Replica.Taken.{Handled, takes, after_taking}
use Rattle.protocol.specs.Replica.Acceptor.{promised, Acceptance, acceptances, new_acceptance}
use Rattle.protocol.specs.Replica.Votes.{casts, cast_on, new_cast, vote, Cast}
use Rattle.protocol.specs.World.State.{Plan, World}
use Rattle.protocol.specs.World.Decided.{WasSent}
use Rattle.protocol.specs.Quorums.{Quorum}
use Rattle.protocol.proofs.NamesLemmas.{same_exec_tells}
use Rattle.protocol.proofs.ReplicaGrows.{vote_stays}
use Rattle.protocol.proofs.ListsLemmas.{IsIn-right, IsIn-cases, IsIn-one_when}
use Rattle.protocol.proofs.QuorumsLemmas.{quorums_meet}
use Rattle.law_steps.proofs.AcceptorLemmas.{acceptance_taken}
use Rattle.law_steps.proofs.Reach.{Step, Reach}
use Rattle.law_steps.proofs.MailLemmas.{took_reach, mail_grows}
use Rattle.law_steps.proofs.Induction.{replica_in_step}
use Rattle.law_safety.specs.Locks.{VotedCommit, HasAccepted, Shut, AbandonLock, CommitLock}
use Rattle.law_safety.specs.Locks.Shut.{Voted_other, Has_promised, Has_decided, Fenced_out, Unsent, Conflicting}
use Rattle.law_safety.specs.Locks.AbandonLock.{Accepted_abandon, All_shut}
use Rattle.law_safety.specs.Locks.CommitLock.{Accepted_commit, Fast}
use Rattle.law_safety.proofs.OneProposal.{one_view}

-- what more envelopes keep of a list, taking keeps, and each step keeps of each replica's
pub taking_grows : (F : Handled → Type 0) → ((h : Handled) (m : Envelope) → F h → F (m ∷ h)) → (h : Handled) (m : Envelope) → F h → F (after_taking h m)
unfolding after_taking
taking_grows F g h m f = go (takes h m.body)
  where
    go : (t : Bool) → F (cond t (m ∷ h) h)
    go true = g h m f
    go false = f

pub replica_grows : (p : Plan) (w w' : World) → Step p w w' → (F : Handled → Type 0) → ((h : Handled) (m : Envelope) → F h → F (m ∷ h)) → (r : ℕ) →
    F (w.replica r) → F (w'.replica r)
replica_grows p w w' st F g = replica_in_step p w w' st (λ r h. F h) (λ s. taking_grows F g (w.replica s.r) s.m)

pub voted_grows : (p : Plan) (w w' : World) → Step p w w' → (x : Exec) (v : Vote) (r : ℕ) → vote (w.replica r) x ≡ Some v → vote (w'.replica r) x ≡ Some v
voted_grows p w w' s x v r e = replica_grows p w w' s (λ h. vote h x ≡ Some v) (λ h m. vote_stays h m x v) r e

pub accepted_grows : (p : Plan) (w w' : World) → Step p w w' → (x : Exec) (v : ℕ) (d : Choice) (r : ℕ) → HasAccepted w x v d r → HasAccepted w' x v d r
accepted_grows p w w' s x v d r e = replica_grows p w w' s (λ h. (a : Acceptance) × IsIn a (acceptances h) × (a.exec ≡ x) × (a.view ≡ v) × (a.choice ≡ d)) (λ h m k. (k.0, IsIn-right k.0 (new_acceptance h m.body) (acceptances h) k.1, k.2, k.3, k.4)) r e

pub sent_grows : (p : Plan) (w w' : World) → Step p w w' → (b : Body) → WasSent w b → WasSent w' b
sent_grows p w w' s b t = record { envelope = t.envelope; there = mail_grows p w w' s t.envelope t.there; body = t.body }

pub quorum_map : (n : ℕ) (P Q : ℕ → Type 0) → ((r : ℕ) → P r → Q r) → Quorum n P → Quorum n Q
quorum_map n P Q f q = record { members = q.members; distinct = q.distinct; ranged = q.ranged; each = λ r i. f r (q.each r i); many = q.many }

-- what was accepted was proposed
pub accepted_sent : (p : Plan) (w : World) → Reach p w → (x : Exec) (v : ℕ) (d : Choice) (r : ℕ) → HasAccepted w x v d r →
    (o : Option Content) × WasSent w (Finalize x v d o)
accepted_sent p w q x v d r h = let t = acceptance_taken (w.replica r) h.0 h.1 in let m = (took_reach p w q).took r t.0 t.1 in
    (h.0.content, record { envelope = t.0; there = m.0; body = t.2 ∙ same h.0 h.2 h.3 h.4 })
  where
    same : (a : Acceptance) → a.exec ≡ x → a.view ≡ v → a.choice ≡ d → Finalize a.exec a.view a.choice a.content ≡ Finalize x v d a.content
    same a e f g = cc

-- a vote was cast on a Prepare that was taken
pub cast_prepare : (h : Handled) (c : Cast) → IsIn c (casts h) → (m : Envelope) × IsIn m h × (m.body ≡ Prepare c.exec c.content)
cast_prepare [] c i = absurd i
cast_prepare (m ∷ h) c i = elim (IsIn-cases c (new_cast h (casts h) m.body) (casts h) i) [
  | inl j ↦ (m, inl refl, new m.body j)
  | inr j ↦ let k = cast_prepare h c j in (k.0, inr k.1, k.2)
]
  where
    new : (b : Body) → IsIn c (new_cast h (casts h) b) → b ≡ Prepare c.exec c.content
    new (Prepare z k) j = let g = IsIn-one_when _ _ c j in rw g.1 refl
    new _ j = absurd j

pub cast_found : (x : Exec) (cs : List Cast) (v : Vote) → option_map (λ (y : Cast). y.vote) (cast_on x cs) ≡ Some v →
    (c : Cast) × IsIn c cs × (c.exec ≡ x) × (c.vote ≡ v)
cast_found x [] v e = cc
cast_found x (c ∷ cs) v e = go (λ f. cast_found x cs v f) (same_exec x c.exec) (same_exec_tells x c.exec) e
  where
    go : (option_map (λ (y : Cast). y.vote) (cast_on x cs) ≡ Some v → (c : Cast) × IsIn c cs × (c.exec ≡ x) × (c.vote ≡ v)) → (t : Bool) →
        ((t ≡ true) × (x ≡ c.exec)) ⊎ ((t ≡ false) × (x ≢ c.exec)) → option_map (λ (y : Cast). y.vote) (cond t (Some c) (cast_on x cs)) ≡ Some v →
        (d : Cast) × IsIn d (c ∷ cs) × (d.exec ≡ x) × (d.vote ≡ v)
    go ih true (inl p) e = (c, inl refl, sym p.1, cc)
    go ih true (inr p) e = cc
    go ih false p e = let k = ih e in (k.0, inr k.1, k.2, k.3)

pub voted_prepared : (p : Plan) (w : World) → Reach p w → (x : Exec) (v : Vote) (r : ℕ) → vote (w.replica r) x ≡ Some v →
    (k : Content) × WasSent w (Prepare x k)
voted_prepared p w q x v r e =
    let c = cast_found x (casts (w.replica r)) v e in
    let m = cast_prepare (w.replica r) c.0 c.1 in
    (c.0.content, record { envelope = m.0; there = ((took_reach p w q).took r m.0 m.1).0; body = m.2 ∙ ap (λ z. Prepare z c.0.content) c.2 })

pub shut_no : (p : Plan) (w : World) → Reach p w → (x : Exec) (r : ℕ) → Shut w x r → VotedCommit w x r → ⊥
shut_no p w q x r (Voted_other v n e) f = n (cc)
shut_no p w q x r (Has_promised n l) f = n f
shut_no p w q x r (Has_decided n d e) f = n f
shut_no p w q x r (Fenced_out n e) f = n f
shut_no p w q x r (Conflicting n k t c i v g o d) f = n f
shut_no p w q x r (Unsent n o) f = let s = voted_prepared p w q x Commit r f in n s.0 s.1

-- no replica of some quorum accepts, or will accept, anything but d on x in view u
abbrev pub Closed : ℕ → World → Exec → ℕ → Choice → Type 0
Closed n w x u d = Quorum n (λ r. (u < promised (w.replica r) x) × ((c : Choice) → HasAccepted w x u c r → c ≡ d))

-- the invariants on proposals
pub record Proposals (n : ℕ) (w : World) : Type 0 where
  pub commit : (x : Exec) (v : ℕ) (o : Option Content) → WasSent w (Finalize x v ToCommit o) → Quorum n (VotedCommit w x)
  pub abandon : (x : Exec) (v : ℕ) (o : Option Content) → WasSent w (Finalize x v Abandon o) →
      ((u : Option Content) × WasSent w (Finalize x 0 Abandon u)) ⊎ ((r : ℕ) × (0 < r) × (r ≤ n) × Shut w x r)
  pub below : (x : Exec) (v : ℕ) (d : Choice) (o : Option Content) → WasSent w (Finalize x v d o) → (u : ℕ) → u < v → Closed n w x u d

one_of : (n : ℕ) (P : ℕ → Type 0) → Quorum n P → (r : ℕ) × P r
one_of n P q = let m = quorums_meet n P P q q in (m.0, m.1)

-- views: what a quorum accepted, every proposal of a higher view carries
pub carried : (p : Plan) (w : World) → Proposals p.replicas w → (x : Exec) (v u : ℕ) (d c : Choice) (o : Option Content) →
    Quorum p.replicas (HasAccepted w x u c) → WasSent w (Finalize x v d o) → u < v → c ≡ d
carried p w t x v u d c o q s l = let m = quorums_meet p.replicas _ _ q (t.below x v d o s u l) in m.2.1 c m.1

-- the two are never locked both
pub locks_clash : (p : Plan) (w : World) → Reach p w → Proposals p.replicas w → (x : Exec) → AbandonLock p.replicas w x → CommitLock p.replicas w x → ⊥
locks_clash p w q t x (Accepted_abandon v a) (Accepted_commit u c) = go (order v u)
  where
    order : (i j : ℕ) → (i < j) ⊎ ((i ≡ j) ⊎ (j < i))
    order i j = grind arith

    a1 : (r : ℕ) × HasAccepted w x v Abandon r
    a1 = one_of p.replicas _ a

    a2 : (o : Option Content) × WasSent w (Finalize x v Abandon o)
    a2 = let k = one_of p.replicas _ a in accepted_sent p w q x v Abandon k.0 k.1

    c2 : (o : Option Content) × WasSent w (Finalize x u ToCommit o)
    c2 = let k = one_of p.replicas _ c in accepted_sent p w q x u ToCommit k.0 k.1

    go : (v < u) ⊎ ((v ≡ u) ⊎ (u < v)) → ⊥
    go (inl l) = let s = (let k = one_of p.replicas _ c in accepted_sent p w q x u ToCommit k.0 k.1) in let e = carried p w t x u v ToCommit Abandon s.0 a s.1 l in cc
    go (inr (inl l)) = let s = (let k = one_of p.replicas _ c in accepted_sent p w q x u ToCommit k.0 k.1) in let z = (let k = one_of p.replicas _ a in accepted_sent p w q x v Abandon k.0 k.1) in
        let e = one_view p w q z.1.envelope s.1.envelope x v Abandon ToCommit z.0 s.0 z.1.there s.1.there z.1.body (s.1.body ∙ ap (λ (y : ℕ). Finalize x y ToCommit s.0) (sym l)) in let e0 = e.0 in cc
    go (inr (inr l)) = let z = (let k = one_of p.replicas _ a in accepted_sent p w q x v Abandon k.0 k.1) in let e = carried p w t x v u Abandon ToCommit z.0 c z.1 l in cc
locks_clash p w q t x (Accepted_abandon v a) (Fast all over none) =
    let k = one_of p.replicas _ a in let z = accepted_sent p w q x v Abandon k.0 k.1 in
    elim (t.abandon x v z.0 z.1) [
      | inl u ↦ none Abandon u.0 u.1
      | inr r ↦ shut_no p w q x r.0 r.3 (all r.0 r.1 r.2)
    ]
locks_clash p w q t x (All_shut s) (Accepted_commit u c) =
    let k = one_of p.replicas _ c in let z = accepted_sent p w q x u ToCommit k.0 k.1 in
    let m = quorums_meet p.replicas _ _ s (t.commit x u z.0 z.1) in shut_no p w q x m.0 m.1 m.2
locks_clash p w q t x (All_shut s) (Fast all over none) =
    let m = quorums_meet p.replicas (Shut w x) (λ r. (0 < r) × (r ≤ p.replicas)) s (record { members = s.members; distinct = s.distinct; ranged = s.ranged; each = s.ranged; many = s.many }) in
    shut_no p w q x m.0 m.1 (all m.0 m.2.0 m.2.1)

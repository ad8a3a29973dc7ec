-- What a warden chooses by its Tolds agrees with what was locked.
use Rattle.std.proofs.Common.{◌≡◌, ℕ, ◌<◌, ◌≤◌, ◌⊎◌, ◌≢◌, inl, inr, refl, ap, sym, ◌∙◌, subst, true, false, Bool, cond, List, [], ◌∷◌, Option, Some, None, length, arith}
use Rattle.std.specs.Prelude.{map, ◌&&◌, nat_lt}
use Rattle.std.specs.List.{list_all}
use Rattle.std.proofs.lemmas.Bool.Decides.{nat_tests}
use Rattle.std.specs.Option.{option_or}
use Rattle.protocol.specs.Words.{Exec, Finalize, Decide, Accept, Content, Vote, Commit, Tentative, Final, Choice, Abandon, ToCommit}
use Rattle.protocol.specs.World.Decided.{WasSent}
use Rattle.protocol.specs.Lists.{IsIn}
use Rattle.protocol.specs.Replica.Votes.{is_commit_vote}
use Rattle.protocol.specs.Replica.Acceptor.{promised, acceptances}
use Rattle.protocol.specs.Quorums.{quorum, Quorum, HasNoRepeats}
use Rattle.protocol.specs.Warden.State.{ToldAnswer}
use Rattle.protocol.specs.Warden.Recovery.{fixed, fixed_choice, with_content, told_decision, told_accept, told_commit, told_content, higher}
use Rattle.protocol.specs.World.State.{Plan, World}
use Rattle.protocol.proofs.QuorumsLemmas.{named_quorum, quorums_meet}
use Rattle.protocol.proofs.TestLemmas.{and_left, and_right, lt_is}
use Rattle.law_steps.proofs.KnownLemmas.{choice_cases, Finds}
use Rattle.law_steps.proofs.Reach.{Reach}
use Rattle.law_safety.specs.Locks.{VotedCommit, HasAccepted, Shut, AbandonLock, CommitLock}
use Rattle.law_safety.specs.Locks.Shut.{Has_promised}
use Rattle.law_safety.specs.Locks.AbandonLock.{Accepted_abandon, All_shut}
use Rattle.law_safety.specs.Locks.CommitLock.{Accepted_commit, Fast}
use Rattle.law_safety.proofs.WardenEvidence.{PartFact, decided_sent}
use Rattle.law_safety.proofs.LocksLemmas.{Closed, accepted_sent, shut_no, carried, quorum_map}
use Rattle.law_safety.proofs.OneProposal.{one_view}
use Rattle.law_safety.proofs.Invariant.{Safe}

-- what the tolds hold
decision_told : (ts : List ToldAnswer) (d : Choice) → told_decision ts ≡ Some d → (t : ToldAnswer) × IsIn t ts × (t.decided ≡ Some d)
decision_told [] d e = cc
decision_told (t ∷ ts) d e = go (decision_told ts d) t.decided refl e
  where
    go : (told_decision ts ≡ Some d → (t : ToldAnswer) × IsIn t ts × (t.decided ≡ Some d)) → (o : Option Choice) → t.decided ≡ o →
        option_or o (told_decision ts) ≡ Some d → (u : ToldAnswer) × IsIn u (t ∷ ts) × (u.decided ≡ Some d)
    go ih (Some c) f e = (t, inl refl, f ∙ e)
    go ih None f e = let k = ih e in (k.0, inr k.1, k.2)

accept_told : (ts : List ToldAnswer) (b : Accept) → told_accept ts ≡ Some b → (t : ToldAnswer) × IsIn t ts × (t.accepted ≡ Some b)
accept_told [] b e = cc
accept_told (t ∷ ts) b e = go (accept_told ts b) t.accepted refl (told_accept ts) refl e
  where
    go : (told_accept ts ≡ Some b → (t : ToldAnswer) × IsIn t ts × (t.accepted ≡ Some b)) → (o : Option Accept) → t.accepted ≡ o → (q : Option Accept) →
        told_accept ts ≡ q → higher o q ≡ Some b → (u : ToldAnswer) × IsIn u (t ∷ ts) × (u.accepted ≡ Some b)
    go ih None f q g e = let k = ih (g ∙ e) in (k.0, inr k.1, k.2)
    go ih (Some a) f None g e = (t, inl refl, f ∙ e)
    go ih (Some a) f (Some c) g e = pick (nat_lt a.view c.view) e
      where
        pick : (z : Bool) → Some (cond z c a) ≡ Some b → (u : ToldAnswer) × IsIn u (t ∷ ts) × (u.accepted ≡ Some b)
        pick true e = let k = ih (g ∙ e) in (k.0, inr k.1, k.2)
        pick false e = (t, inl refl, f ∙ e)

-- the accepted pair told has the highest view
abbrev pub IsTop : Option Accept → Accept → Type 0
IsTop q a = (b : Accept) × (q ≡ Some b) × (a.view ≤ b.view)

top_told : (ts : List ToldAnswer) (t : ToldAnswer) (a : Accept) → IsIn t ts → t.accepted ≡ Some a → IsTop (told_accept ts) a
top_told [] t a i e = absurd i
top_told (u ∷ ts) t a i e = go (λ j. top_told ts t a j e) u.accepted refl (told_accept ts) refl i
  where
    go : (IsIn t ts → IsTop (told_accept ts) a) → (o : Option Accept) → u.accepted ≡ o → (q : Option Accept) → told_accept ts ≡ q → (t ≡ u) ⊎ IsIn t ts →
        IsTop (higher o q) a
    go ih None f q g (inl z) = let k : None ≡ Some a = sym f ∙ (ap (λ (y : ToldAnswer). y.accepted) (sym z) ∙ e) in cc
    go ih None f q g (inr i) = rw (← g) (ih i)
    go ih (Some c) f None g (inl z) = let k : Some c ≡ Some a = sym f ∙ (ap (λ (y : ToldAnswer). y.accepted) (sym z) ∙ e) in let k2 : c ≡ a = cc in (c, refl, rw k2 (omega arith))
    go ih (Some c) f None g (inr i) = let k = ih i in let z : None ≡ Some k.0 = sym g ∙ k.1 in cc
    go ih (Some c) f (Some b) g h = pick (nat_lt c.view b.view) refl h
      where
        old : IsIn t ts → a.view ≤ b.view
        old i = let k = ih i in let z : Some b ≡ Some k.0 = sym g ∙ k.1 in let z2 : b ≡ k.0 = cc in let l = k.2 in rw z2 l

        same : t ≡ u → c ≡ a
        same z = let k : Some c ≡ Some a = sym f ∙ (ap (λ (y : ToldAnswer). y.accepted) (sym z) ∙ e) in cc

        pick : (z : Bool) → nat_lt c.view b.view ≡ z → (t ≡ u) ⊎ IsIn t ts → IsTop (Some (cond z b c)) a
        pick true q (inl s) = (b, refl, (let v = ap (λ (y : Accept). y.view) (same s) in let l = lt_is c.view b.view q in omega (arith, v, l)))
        pick true q (inr i) = (b, refl, old i)
        pick false q (inl s) = (c, refl, (let v = ap (λ (y : Accept). y.view) (same s) in omega (arith, v)))
        pick false q (inr i) = (c, refl, (let l = old i in let n = not_lt c.view b.view q in omega (arith, l, n)))
          where
            not_lt : (m n : ℕ) → nat_lt m n ≡ false → n ≤ m
            not_lt m n e = grind (arith, nat_tests)

content_told : (ts : List ToldAnswer) (t : ToldAnswer) → IsIn t ts → Finds t.content → Finds (told_content ts)
content_told [] t i f = absurd i
content_told (u ∷ ts) t i f = go (λ j. content_told ts t j f) u.content refl i
  where
    go : (IsIn t ts → Finds (told_content ts)) → (o : Option Content) → u.content ≡ o → (t ≡ u) ⊎ IsIn t ts → Finds (option_or o (told_content ts))
    go ih (Some c) e i = tt
    go ih None e (inl z) = absurd (subst (λ (y : Option Content). Finds y) (ap (λ (y : ToldAnswer). y.content) z ∙ e) f)
    go ih None e (inr i) = ih i

all_told : (ts : List ToldAnswer) (t : ToldAnswer) → list_all told_commit ts ≡ true → IsIn t ts → told_commit t ≡ true
all_told [] t e i = absurd i
all_told (u ∷ ts) t e (inl z) = rw z (and_left _ _ e)
all_told (u ∷ ts) t e (inr i) = all_told ts t (and_right (told_commit u) _ e) i

some_told : (ts : List ToldAnswer) → list_all told_commit ts ≡ false → (t : ToldAnswer) × IsIn t ts × (told_commit t ≡ false)
some_told [] e = cc
some_told (u ∷ ts) e = go (some_told ts) (told_commit u) refl e
  where
    go : (list_all told_commit ts ≡ false → (t : ToldAnswer) × IsIn t ts × (told_commit t ≡ false)) → (z : Bool) → told_commit u ≡ z →
        (z && list_all told_commit ts) ≡ false → (t : ToldAnswer) × IsIn t (u ∷ ts) × (told_commit t ≡ false)
    go ih true f e = let k = ih e in (k.0, inr k.1, k.2)
    go ih false f e = (u, inl refl, f)

commit_is : (o : Option Vote) → (elim o [ None ↦ false | Some v ↦ is_commit_vote v ]) ≡ true → o ≡ Some Commit
commit_is None e = cc
commit_is (Some Commit) e = refl
commit_is (Some Tentative) e = cc
commit_is (Some Final) e = cc

commit_not : (o : Option Vote) → (elim o [ None ↦ false | Some v ↦ is_commit_vote v ]) ≡ false → o ≢ Some Commit
commit_not None e f = cc
commit_not (Some Commit) e f = cc
commit_not (Some Tentative) e f = cc
commit_not (Some Final) e f = cc

-- the choice that is made, before the question of a content
abbrev pub chosen : List ToldAnswer → Choice
chosen ts = fixed_choice (told_decision ts) (told_accept ts) (list_all told_commit ts)

content_choice : (c : Choice) (o : Option Content) → (c ≡ ToCommit → Finds o) → (with_content c o).choice ≡ c
content_choice ToCommit (Some k) f = refl
content_choice ToCommit None f = absurd (f refl)
content_choice Abandon o f = refl

module _ (p : Plan) (w : World) (q : Reach p w) (s : Safe p.replicas w) (x : Exec) (v : ℕ) (ts : List ToldAnswer)
    (facts : (t : ToldAnswer) → IsIn t ts → PartFact p.replicas w x v t)
    (distinct : HasNoRepeats (map (λ (t : ToldAnswer). t.replica) ts))
    (many : quorum p.replicas ≤ length ts) where
  abbrev Told_by : ℕ → Type 0
  Told_by r = (t : ToldAnswer) × IsIn t ts × (t.replica ≡ r)

  tellers : Quorum p.replicas Told_by
  tellers = named_quorum (λ (t : ToldAnswer). t.replica) p.replicas ts distinct (λ t i. (facts t i).0) many

  first_told : (t : ToldAnswer) × IsIn t ts
  first_told = let m = quorums_meet p.replicas _ _ tellers tellers in (m.1.0, m.1.1)

  -- a choice of Commit has its content
  has_content : chosen ts ≡ ToCommit → Finds (told_content ts)
  has_content e = go (told_decision ts) refl (told_accept ts) refl (list_all told_commit ts) refl e
    where
      go : (d : Option Choice) → told_decision ts ≡ d → (a : Option Accept) → told_accept ts ≡ a → (b : Bool) → list_all told_commit ts ≡ b →
          fixed_choice d a b ≡ ToCommit → Finds (told_content ts)
      go (Some d) f a g b h e = let t = decision_told ts d f in content_told ts t.0 t.1 ((facts t.0 t.1).1.knows_decision (t.2 ∙ ap Some e))
      go None f (Some a) g b h e = let t = accept_told ts a g in content_told ts t.0 t.1 ((facts t.0 t.1).1.knows_accept a t.2 e)
      go None f None g true h e = let t = first_told in content_told ts t.0 t.1 ((facts t.0 t.1).1.knows_vote (commit_is t.0.vote (all_told ts t.0 h t.1)))
      go None f None g false h e = cc

  pub fixed_chosen : (fixed ts).choice ≡ chosen ts
  unfolding fixed
  fixed_chosen = content_choice (chosen ts) (told_content ts) has_content

  -- in a lower view, what a teller accepted was told
  teller_closed : (u : ℕ) (d : Choice) → u < v → ((c : Choice) (r : ℕ) → Told_by r → HasAccepted w x u c r → c ≡ d) → Closed p.replicas w x u d
  teller_closed u d l f = quorum_map p.replicas _ _ (λ r t. ((let h = subst (λ z. v ≤ promised (w.replica z) x) t.2 ((facts t.0 t.1).1.told.promise) in omega (arith, h, l)), λ c a. f c r t a)) tellers

  told_above : (u : ℕ) (c : Choice) (r : ℕ) → u < v → Told_by r → HasAccepted w x u c r → IsTop (told_accept ts) (record { view = u; choice = c })
  told_above u c r l t a =
      let k = (facts t.0 t.1).1.told.above a.0 (subst (λ z. IsIn a.0 (acceptances (w.replica z))) (sym t.2) a.1) a.2 (let e = a.3 in omega (arith, e, l)) in
      let m = top_told ts t.0 k.0 t.1 k.1 in
      (m.0, m.1, let e = a.3 in let l1 = k.2 in let l2 = m.2 in omega (arith, e, l1, l2))

  order : (i j : ℕ) → (i < j) ⊎ ((i ≡ j) ⊎ (j < i))
  order i j = grind arith

  same_view : (u u' : ℕ) (c d : Choice) (o o' : Option Content) → WasSent w (Finalize x u c o) → WasSent w (Finalize x u' d o') → u ≡ u' → c ≡ d
  same_view u u' c d o o' a b e =
      (one_view p w q a.envelope b.envelope x u c d o o' a.there b.there a.body (b.body ∙ ap (λ (z : ℕ). Finalize x z d o') (sym e))).0

  one_of : (P : ℕ → Type 0) → Quorum p.replicas P → (r : ℕ) × P r
  one_of P a = let m = quorums_meet p.replicas P P a a in (m.0, m.1)

  -- below a quorum of acceptances of d
  accepted_below : (u v0 : ℕ) (d : Choice) → u < v → Quorum p.replicas (HasAccepted w x v0 d) → Closed p.replicas w x u d
  accepted_below u v0 d l a = go (order u v0)
    where
      z : (o : Option Content) × WasSent w (Finalize x v0 d o)
      z = let k = one_of _ a in accepted_sent p w q x v0 d k.0 k.1

      go : (u < v0) ⊎ ((u ≡ v0) ⊎ (v0 < u)) → Closed p.replicas w x u d
      go (inl g) = let k = one_of _ a in let z = accepted_sent p w q x v0 d k.0 k.1 in s.proposals.below x v0 d z.0 z.1 u g
      go (inr (inl g)) = let k = one_of _ a in let z = accepted_sent p w q x v0 d k.0 k.1 in teller_closed u d l (λ c r t h. let y = accepted_sent p w q x u c r h in same_view u v0 c d y.0 z.0 y.1 z.1 g)
      go (inr (inr g)) = teller_closed u d l (λ c r t h. let y = accepted_sent p w q x u c r h in sym (carried p w s.proposals x u v0 c d y.0 a y.1 g))

  decided_below : (u : ℕ) (d : Choice) (o : Option Content) → u < v → WasSent w (Decide x d o) → Closed p.replicas w x u d
  decided_below u ToCommit o l t = go (s.committed x o t).0
    where
      go : CommitLock p.replicas w x → Closed p.replicas w x u ToCommit
      go (Accepted_commit v0 a) = accepted_below u v0 ToCommit l a
      go (Fast all over none) = teller_closed u ToCommit l (λ c r t h. elim (choice_cases c) [
        | inr e ↦ e
        | inl e ↦ let y = accepted_sent p w q x u c r h in elim (s.proposals.abandon x u y.0 (subst (λ z. WasSent w (Finalize x u z y.0)) e y.1)) [
          | inl k ↦ absurd (none Abandon k.0 k.1)
          | inr k ↦ absurd (shut_no p w q x k.0 k.3 (all k.0 k.1 k.2))
        ]
      ])
  decided_below u Abandon o l t = go (s.abandoned x o t)
    where
      go : AbandonLock p.replicas w x → Closed p.replicas w x u Abandon
      go (Accepted_abandon v0 a) = accepted_below u v0 Abandon l a
      go (All_shut a) = teller_closed u Abandon l (λ c r t h. elim (choice_cases c) [
        | inl e ↦ e
        | inr e ↦ let y = accepted_sent p w q x u c r h in
            let m = quorums_meet p.replicas _ _ a (s.proposals.commit x u y.0 (subst (λ z. WasSent w (Finalize x u z y.0)) e y.1)) in absurd (shut_no p w q x m.0 m.1 m.2)
      ])

  pub chosen_below : (u : ℕ) → u < v → Closed p.replicas w x u (chosen ts)
  chosen_below u l = go (told_decision ts) refl (told_accept ts) refl (list_all told_commit ts)
    where
      go : (d : Option Choice) → told_decision ts ≡ d → (a : Option Accept) → told_accept ts ≡ a → (b : Bool) → Closed p.replicas w x u (fixed_choice d a b)
      go (Some d) f a g b = let t = decision_told ts d f in let k = decided_sent p w q x d t.0.replica ((facts t.0 t.1).1.told.decided d t.2) in decided_below u d k.0 l k.1
      go None f (Some a) g b = by_order (order u a.view)
        where
          back : (o : Option Content) × WasSent w (Finalize x a.view a.choice o)
          back = let t = accept_told ts a g in let k = (facts t.0 t.1).1.told.backed a t.2 in accepted_sent p w q x a.view a.choice t.0.replica (k.0, k.1, k.2, k.3, k.4)

          by_order : (u < a.view) ⊎ ((u ≡ a.view) ⊎ (a.view < u)) → Closed p.replicas w x u a.choice
          by_order (inl h) = let t = accept_told ts a g in let k = (facts t.0 t.1).1.told.backed a t.2 in let z = accepted_sent p w q x a.view a.choice t.0.replica (k.0, k.1, k.2, k.3, k.4) in s.proposals.below x a.view a.choice z.0 z.1 u h
          by_order (inr (inl h)) = let t = accept_told ts a g in let k = (facts t.0 t.1).1.told.backed a t.2 in let z = accepted_sent p w q x a.view a.choice t.0.replica (k.0, k.1, k.2, k.3, k.4) in teller_closed u a.choice l (λ c r t h'. let y = accepted_sent p w q x u c r h' in same_view u a.view c a.choice y.0 z.0 y.1 z.1 h)
          by_order (inr (inr h)) = teller_closed u a.choice l (λ c r t h'. let m = told_above u c r l t h' in let e : Some a ≡ Some m.0 = sym g ∙ m.1 in let e2 : a ≡ m.0 = cc in let e3 = ap (λ (z : Accept). z.view) e2 in let l2 = m.2 in absurd (omega (arith, e3, l2, h)))
      go None f None g b =
          teller_closed u (fixed_choice None None b) l (λ c r t h'. let m = told_above u c r l t h' in let e : None ≡ Some m.0 = sym g ∙ m.1 in cc)

  pub chosen_abandon : chosen ts ≡ Abandon → ((u : Option Content) × WasSent w (Finalize x 0 Abandon u)) ⊎ ((r : ℕ) × (0 < r) × (r ≤ p.replicas) × Shut w x r)
  chosen_abandon e = go (told_decision ts) refl (told_accept ts) refl (list_all told_commit ts) refl e
    where
      from_lock : AbandonLock p.replicas w x → ((u : Option Content) × WasSent w (Finalize x 0 Abandon u)) ⊎ ((r : ℕ) × (0 < r) × (r ≤ p.replicas) × Shut w x r)
      from_lock (Accepted_abandon v0 a) = let k = one_of _ a in let z = accepted_sent p w q x v0 Abandon k.0 k.1 in s.proposals.abandon x v0 z.0 z.1
      from_lock (All_shut a) = let m = quorums_meet p.replicas (Shut w x) (λ r. (0 < r) × (r ≤ p.replicas)) a (record { members = a.members; distinct = a.distinct; ranged = a.ranged; each = a.ranged; many = a.many }) in inr (m.0, m.2.0, m.2.1, m.1)

      go : (d : Option Choice) → told_decision ts ≡ d → (a : Option Accept) → told_accept ts ≡ a → (b : Bool) → list_all told_commit ts ≡ b →
          fixed_choice d a b ≡ Abandon → ((u : Option Content) × WasSent w (Finalize x 0 Abandon u)) ⊎ ((r : ℕ) × (0 < r) × (r ≤ p.replicas) × Shut w x r)
      go (Some d) f a g b h e = let t = decision_told ts d f in let k = decided_sent p w q x d t.0.replica ((facts t.0 t.1).1.told.decided d t.2) in from_lock (s.abandoned x k.0 (subst (λ z. WasSent w (Decide x z k.0)) e k.1))
      go None f (Some a) g b h e = let t = accept_told ts a g in let k = (facts t.0 t.1).1.told.backed a t.2 in let z = accepted_sent p w q x a.view a.choice t.0.replica (k.0, k.1, k.2, k.3, k.4) in s.proposals.abandon x a.view z.0 (subst (λ y. WasSent w (Finalize x a.view y z.0)) e z.1)
      go None f None g true h e = cc
      go None f None g false h e = let t = some_told ts h in let fact = facts t.0 t.1 in
          inr (t.0.replica, fact.0.0, fact.0.1, Has_promised (λ c. commit_not t.0.vote t.2 (sym fact.1.told.vote ∙ c)) (let a = fact.1.told.positive in let b = fact.1.told.promise in omega (arith, a, b)))

  pub chosen_commit : chosen ts ≡ ToCommit → Quorum p.replicas (VotedCommit w x)
  chosen_commit e = go (told_decision ts) refl (told_accept ts) refl (list_all told_commit ts) refl e
    where
      go : (d : Option Choice) → told_decision ts ≡ d → (a : Option Accept) → told_accept ts ≡ a → (b : Bool) → list_all told_commit ts ≡ b →
          fixed_choice d a b ≡ ToCommit → Quorum p.replicas (VotedCommit w x)
      go (Some d) f a g b h e = let t = decision_told ts d f in let k = decided_sent p w q x d t.0.replica ((facts t.0 t.1).1.told.decided d t.2) in (s.committed x k.0 (subst (λ z. WasSent w (Decide x z k.0)) e k.1)).1
      go None f (Some a) g b h e = let t = accept_told ts a g in let k = (facts t.0 t.1).1.told.backed a t.2 in let z = accepted_sent p w q x a.view a.choice t.0.replica (k.0, k.1, k.2, k.3, k.4) in s.proposals.commit x a.view z.0 (subst (λ y. WasSent w (Finalize x a.view y z.0)) e z.1)
      go None f None g true h e =
          quorum_map p.replicas _ _ (λ r t. subst (VotedCommit w x) t.2 ((facts t.0 t.1).1.told.vote ∙ commit_is t.0.vote (all_told ts t.0 h t.1))) tellers
      go None f None g false h e = cc

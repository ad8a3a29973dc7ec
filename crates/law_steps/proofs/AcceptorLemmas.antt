-- What a replica accepted was sent, and what a Told says of it is so for good.
use Rattle.std.proofs.Common.{subst, sym, ◌≡◌, ℕ, ◌<◌, ◌≤◌, ◌⊎◌, ◌≢◌, inl, inr, refl, ap, ◌∙◌, true, false, Bool, cond, List, [], ◌∷◌, ◌++◌, Option, Some, arith}
use Rattle.std.specs.Prelude.{option_map, nat_le, ◌==◌}
use Rattle.protocol.specs.Words.{Exec, Envelope, Body, Content, Choice, Accept, Vote, Prepare, Finalize, Ask, same_exec}
use Rattle.protocol.specs.Lists.{IsIn, one_when}
use Rattle.protocol.specs.Replica.Taken.{Handled}
use Rattle.protocol.specs.Replica.Acceptor.{promised, view_for, Acceptance, acceptances, new_acceptance, accept_on, accepted, pair_of, decided}
use Rattle.protocol.specs.Replica.Votes.{casts, cast_on, new_cast, may_vote, verdict, vote, Cast}
use Rattle.protocol.proofs.TestLemmas.{and_left, eqb_is, le_is}
use Rattle.protocol.proofs.NamesLemmas.{same_exec_tells, same_exec_refl}
use Rattle.protocol.proofs.ReplicaGrows.{decided_stays, promised_grows}
use Rattle.protocol.proofs.ListsLemmas.{IsIn-right, IsIn-cases}

-- an acceptance is made of a Finalize whose view was promised at most
pub new_acceptance_is : (h : Handled) (b : Body) (a : Acceptance) → IsIn a (new_acceptance h b) →
    (b ≡ Finalize a.exec a.view a.choice a.content) × (promised h a.exec ≤ a.view)
new_acceptance_is h (Finalize x v d c) a i = go (nat_le (promised h x) v) refl i
  where
    go : (t : Bool) → nat_le (promised h x) v ≡ t → IsIn a (one_when t (record { exec = x; view = v; choice = d; content = c })) →
        (Finalize x v d c ≡ Finalize a.exec a.view a.choice a.content) × (promised h a.exec ≤ a.view)
    go true q (inl e) = (rw e, rw e (le_is _ _ q))
    go true q (inr i) = absurd i
    go false q i = absurd i
new_acceptance_is h _ a i = absurd i

-- an accepted view is promised
pub acceptance_promised : (h : Handled) (a : Acceptance) → IsIn a (acceptances h) → a.view ≤ promised h a.exec
acceptance_promised [] a i = absurd i
acceptance_promised (m ∷ h) a i = go (λ j. acceptance_promised h a j) (IsIn-cases a (new_acceptance h m.body) (acceptances h) i)
  where
    seen : (b : Body) → b ≡ Finalize a.exec a.view a.choice a.content → a.view ≤ view_for a.exec b
    seen b e = rw (e, same_exec_refl) (omega arith)

    go : (IsIn a (acceptances h) → a.view ≤ promised h a.exec) → IsIn a (new_acceptance h m.body) ⊎ IsIn a (acceptances h) → a.view ≤ promised (m ∷ h) a.exec
    go ih (inl j) = let k = new_acceptance_is h m.body a j in let s = seen m.body k.0 in omega (arith, s)
    go ih (inr j) = let k = ih j in let g = promised_grows h m a.exec in omega (arith, k, g)

-- what was accepted was taken
pub acceptance_taken : (h : Handled) (a : Acceptance) → IsIn a (acceptances h) →
    (m : Envelope) × IsIn m h × (m.body ≡ Finalize a.exec a.view a.choice a.content)
acceptance_taken [] a i = absurd i
acceptance_taken (m ∷ h) a i = elim (IsIn-cases a (new_acceptance h m.body) (acceptances h) i) [
  | inl j ↦ (m, inl refl, (new_acceptance_is h m.body a j).0)
  | inr j ↦ let k = acceptance_taken h a j in (k.0, inr k.1, k.2)
]

may_vote_zero : (h : Handled) (old : List Cast) (z : Exec) → may_vote h old z ≡ true → promised h z ≡ 0
unfolding may_vote
may_vote_zero h old z e = eqb_is (promised h z) 0 (and_left (promised h z == 0) _ e)

-- where no vote on x may be cast, the vote on x stands
pub vote_stands : (h : Handled) (m : Envelope) (x : Exec) → (may_vote h (casts h) x ≡ true → ⊥) → vote (m ∷ h) x ≡ vote h x
vote_stands h m x none = ap (λ (o : Option Cast). option_map (λ (y : Cast). y.vote) o) (go m.body)
  where
    other : (z : Exec) (new : Cast) (t : Bool) → may_vote h (casts h) z ≡ true → ((t ≡ true) × (x ≡ z)) ⊎ ((t ≡ false) × (x ≢ z)) →
        cond t (Some new) (cast_on x (casts h)) ≡ cast_on x (casts h)
    other z new true q (inl e) = absurd (none (subst (λ (y : Exec). may_vote h (casts h) y ≡ true) (sym e.1) q))
    other z new true q (inr e) = cc
    other z new false q e = refl

    same : (z : Exec) (c : Content) (t : Bool) → may_vote h (casts h) z ≡ t →
        cast_on x (one_when t (record { exec = z; content = c; vote = verdict h (casts h) z c }) ++ casts h) ≡ cast_on x (casts h)
    same z c true q = other z _ (same_exec x z) q (same_exec_tells x z)
    same z c false q = refl

    go : (b : Body) → cast_on x (new_cast h (casts h) b ++ casts h) ≡ cast_on x (casts h)
    go (Prepare z c) = same z c (may_vote h (casts h) z) refl
    go _ = refl

-- with a view above 0 promised, nothing is voted any more
pub vote_frozen : (h : Handled) (m : Envelope) (x : Exec) → 0 < promised h x → vote (m ∷ h) x ≡ vote h x
vote_frozen h m x p = vote_stands h m x (λ e. let k = may_vote_zero h (casts h) x e in absurd (omega (arith, k, p)))

-- the last accepted pair on x is the newest acceptance, and each of x is at or below its view
pub accept_on_backed : (x : Exec) (accepts : List Acceptance) (b : Accept) → option_map pair_of (accept_on x accepts) ≡ Some b →
    (a : Acceptance) × IsIn a accepts × (a.exec ≡ x) × (a.view ≡ b.view) × (a.choice ≡ b.choice)
accept_on_backed x [] b e = cc
accept_on_backed x (a ∷ accepts) b e = go (λ f. accept_on_backed x accepts b f) (same_exec x a.exec) (same_exec_tells x a.exec) e
  where
    Backed : List Acceptance → Type 0
    Backed as' = (a : Acceptance) × IsIn a as' × (a.exec ≡ x) × (a.view ≡ b.view) × (a.choice ≡ b.choice)

    go : (option_map pair_of (accept_on x accepts) ≡ Some b → (a : Acceptance) × IsIn a accepts × (a.exec ≡ x) × (a.view ≡ b.view) × (a.choice ≡ b.choice)) →
        (t : Bool) → ((t ≡ true) × (x ≡ a.exec)) ⊎ ((t ≡ false) × (x ≢ a.exec)) → option_map pair_of (cond t (Some a) (accept_on x accepts)) ≡ Some b →
        (a' : Acceptance) × IsIn a' (a ∷ accepts) × (a'.exec ≡ x) × (a'.view ≡ b.view) × (a'.choice ≡ b.choice)
    go ih true (inl q) e = let f : pair_of a ≡ b = cc in (a, inl refl, sym q.1, ap (λ (z : Accept). z.view) f, ap (λ (z : Accept). z.choice) f)
    go ih true (inr q) e = cc
    go ih false q e = let k = ih e in (k.0, inr k.1, k.2, k.3, k.4)

-- the acceptance found for x, at or above the view v
abbrev pub Found : Exec → ℕ → List Acceptance → Type 0
Found x v accepts = (b : Accept) × (option_map pair_of (accept_on x accepts) ≡ Some b) × (v ≤ b.view)

newest_cons : (x : Exec) (a n : Acceptance) (rest : List Acceptance) → a.exec ≡ x → (IsIn a rest → Found x a.view rest) →
    (IsIn a rest → n.exec ≡ x → a.view ≤ n.view) → IsIn a (n ∷ rest) → Found x a.view (n ∷ rest)
newest_cons x a n rest e ih below i = go (same_exec x n.exec) (same_exec_tells x n.exec) i
  where
    go : (t : Bool) → ((t ≡ true) × (x ≡ n.exec)) ⊎ ((t ≡ false) × (x ≢ n.exec)) → IsIn a (n ∷ rest) →
        (b : Accept) × (option_map pair_of (cond t (Some n) (accept_on x rest)) ≡ Some b) × (a.view ≤ b.view)
    go true (inl q) (inl f) = (pair_of n, refl, let g = ap (λ (z : Acceptance). z.view) f in omega (arith, g))
    go true (inl q) (inr j) = (pair_of n, refl, below j (sym q.1))
    go true (inr q) i = cc
    go false (inl q) i = cc
    go false (inr q) (inl f) = absurd (q.1 (sym e ∙ ap (λ (z : Acceptance). z.exec) f))
    go false (inr q) (inr j) = ih j

newest_step : (h : Handled) (b : Body) (x : Exec) (a : Acceptance) → a.exec ≡ x → (IsIn a (acceptances h) → Found x a.view (acceptances h)) →
    (IsIn a (acceptances h) → a.view ≤ promised h x) → IsIn a (new_acceptance h b ++ acceptances h) → Found x a.view (new_acceptance h b ++ acceptances h)
newest_step h (Finalize y v d c) x a e ih low i = go (nat_le (promised h y) v) refl i
  where
    go : (t : Bool) → nat_le (promised h y) v ≡ t → IsIn a (one_when t (record { exec = y; view = v; choice = d; content = c }) ++ acceptances h) →
        Found x a.view (one_when t (record { exec = y; view = v; choice = d; content = c }) ++ acceptances h)
    go true q i = newest_cons x a (record { exec = y; view = v; choice = d; content = c }) (acceptances h) e ih (λ j f. let k = low j in let l : promised h y ≤ v = le_is _ _ q in let g : promised h x ≤ v = rw (← f) l in omega (arith, k, g)) i
    go false q i = ih i
newest_step h _ x a e ih low i = ih i

-- acceptances of one execution have views that do not fall
pub newest_accept : (h : Handled) (x : Exec) (a : Acceptance) → IsIn a (acceptances h) → a.exec ≡ x → Found x a.view (acceptances h)
newest_accept [] x a i e = absurd i
newest_accept (m ∷ h) x a i e = newest_step h m.body x a e (λ j. newest_accept h x a j e) (λ j. rw (← e) (acceptance_promised h a j)) i

-- what a Told says is so: the vote for good, and each acceptance below its view
pub record IsTold (h : Handled) (x : Exec) (v : ℕ) (vote' : Option Vote) (accepted' : Option Accept) (decided' : Option Choice) : Type 0 where
  pub positive : 0 < v
  pub promise : v ≤ promised h x
  pub vote : vote h x ≡ vote'
  pub above : (a : Acceptance) → IsIn a (acceptances h) → a.exec ≡ x → a.view < v → (b : Accept) × (accepted' ≡ Some b) × (a.view ≤ b.view)
  pub backed : (b : Accept) → accepted' ≡ Some b →
      (a : Acceptance) × IsIn a (acceptances h) × (a.exec ≡ x) × (a.view ≡ b.view) × (a.choice ≡ b.choice) × (b.view < v)
  pub decided : (d : Choice) → decided' ≡ Some d → decided h x ≡ Some d

pub told_stays : (h : Handled) (m : Envelope) (x : Exec) (v : ℕ) (o : Option Vote) (ac : Option Accept) (de : Option Choice) → IsTold h x v o ac de →
    IsTold (m ∷ h) x v o ac de
told_stays h m x v o ac de t = record {
  positive = t.positive;
  promise = let g = promised_grows h m x in let p = t.promise in omega (arith, g, p);
  vote = vote_frozen h m x (let p = t.promise in let q = t.positive in omega (arith, p, q)) ∙ t.vote;
  above = λ a i e l. elim (IsIn-cases a (new_acceptance h m.body) (acceptances h) i) [
    | inl j ↦ let k = new_acceptance_is h m.body a j in let f : promised h x ≤ a.view = rw (← e) k.1 in let p = t.promise in absurd (omega (arith, f, p, l))
    | inr j ↦ t.above a j e l
  ];
  backed = λ b e. let k = t.backed b e in (k.0, IsIn-right k.0 (new_acceptance h m.body) (acceptances h) k.1, k.2, k.3, k.4, k.5);
  decided = λ d e. decided_stays h m x d (t.decided d e);
}

pub told_new : (h : Handled) (m : Envelope) (x : Exec) (v : ℕ) → m.body ≡ Ask x v → promised h x < v →
    IsTold (m ∷ h) x v (vote h x) (accepted h x) (decided h x)
told_new h m x v q p = record {
  positive = omega (arith, p);
  promise = rw q (rw same_exec_refl (omega arith));
  vote = rw q;
  above = λ a i e l. let j : IsIn a (acceptances h) = rw q at i in newest_accept h x a j e;
  backed = λ b e. let k = accept_on_backed x (acceptances h) b e in let s = acceptance_promised h k.0 k.1 in let s2 : k.0.view ≤ promised h x = subst (λ z. k.0.view ≤ promised h z) k.2 s in
      (k.0, IsIn-right k.0 (new_acceptance h m.body) (acceptances h) k.1, k.2, k.3, k.4, let f = k.3 in omega (arith, f, s2, p));
  decided = λ d e. decided_stays h m x d e;
}

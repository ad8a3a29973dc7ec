-- What a replica took is above what it had dropped, and its dropped version and base are those of a Drop that it took.
use Rattle.std.proofs.Common.{◌≡◌, ◌⊎◌, inl, inr, refl, ap, sym, ◌∙◌, subst, true, false, Bool, cond, List, [], ◌∷◌, Option, Some, None}
use Rattle.std.specs.Prelude.{filter}
use Rattle.protocol.specs.Words.{Version, Envelope, Body, BaseEntry, Kept, Prepare, Drops, no_version, before, exec_before}
use Rattle.protocol.specs.Lists.{IsIn}
use Rattle.protocol.specs.Replica.Taken.{Handled, takes, after_taking, is_above, version_of, later, dropped, dropped_by, base, base_after}
use Rattle.protocol.specs.Replica.Votes.{Cast, casts, new_cast, verdict}
use Rattle.protocol.specs.Replica.Says.{sorted_kept, put_kept}
use Rattle.protocol.specs.World.Decided.{UpTo}
use Rattle.protocol.proofs.TestLemmas.{true_false, and_left}
use Rattle.protocol.proofs.ListsLemmas.{IsIn-cases, IsIn-one_when}
use Rattle.protocol.proofs.NamesLemmas.{none_before, up_to_none, up_to_trans}
use Rattle.protocol.proofs.ReplicaGrows.{later_left}

-- a replica took each envelope of its list as its rule says
abbrev pub IsTaking : Handled → Type 0
IsTaking [] = Unit {0}
IsTaking (m ∷ h) = (takes h m.body ≡ true) × IsTaking h

pub taking_more : (h : Handled) (m : Envelope) → IsTaking h → IsTaking (after_taking h m)
unfolding after_taking
taking_more h m i = go (takes h m.body) refl
  where
    go : (t : Bool) → takes h m.body ≡ t → IsTaking (cond t (m ∷ h) h)
    go true e = (e, i)
    go false e = i

pub takes_above : (h : Handled) (b : Body) → takes h b ≡ true → is_above (dropped h) (version_of b) ≡ true
unfolding takes
takes_above h b e = and_left _ _ e

above_none : (a : Version) (o : Option Version) → is_above a o ≡ true → is_above no_version o ≡ true
above_none a None e = e
above_none a (Some v) e = up_to_none a v e

pub taken_above : (h : Handled) → IsTaking h → (m : Envelope) → IsIn m h → is_above no_version (version_of m.body) ≡ true
taken_above [] t m i = absurd i
taken_above (n ∷ h) t m (inl e) =
    subst (λ (y : Envelope). is_above no_version (version_of y.body) ≡ true) (sym e) (above_none (dropped h) (version_of n.body) (takes_above h n.body t.0))
taken_above (n ∷ h) t m (inr i) = taken_above h t.1 m i

-- what is dropped was dropped by a Drop, with the base
pub dropped_taken : (h : Handled) → before no_version (dropped h) ≡ true → (m : Envelope) × IsIn m h × (m.body ≡ Drops (dropped h) (base h))
dropped_taken [] e = absurd (true_false (sym e ∙ none_before no_version))
dropped_taken (m ∷ h) e = go m.body refl (λ f. dropped_taken h f)
  where
    Goal : Version → List BaseEntry → Type 0
    Goal v b = (n : Envelope) × IsIn n (m ∷ h) × (n.body ≡ Drops v b)

    new : (v : Version) (b : List BaseEntry) (t : Bool) → m.body ≡ Drops v b → before no_version (cond t v (dropped h)) ≡ true →
        (before no_version (dropped h) ≡ true → (n : Envelope) × IsIn n h × (n.body ≡ Drops (dropped h) (base h))) →
        (n : Envelope) × IsIn n (m ∷ h) × (n.body ≡ Drops (cond t v (dropped h)) (cond t b (base h)))
    new v b true q f ih = (m, inl refl, q)
    new v b false q f ih = let k = ih f in (k.0, inr k.1, k.2)

    other : before no_version (later (dropped h) no_version) ≡ true →
        (before no_version (dropped h) ≡ true → (n : Envelope) × IsIn n h × (n.body ≡ Drops (dropped h) (base h))) →
        (n : Envelope) × IsIn n (m ∷ h) × (n.body ≡ Drops (later (dropped h) no_version) (base h))
    other f ih = go2 (before (dropped h) no_version) (none_before (dropped h)) f
      where
        go2 : (t : Bool) → t ≡ false → before no_version (cond t no_version (dropped h)) ≡ true →
            (n : Envelope) × IsIn n (m ∷ h) × (n.body ≡ Drops (cond t no_version (dropped h)) (base h))
        go2 true z f = cc
        go2 false z f = let k = ih f in (k.0, inr k.1, k.2)

    go : (c : Body) → m.body ≡ c → (before no_version (dropped h) ≡ true → (n : Envelope) × IsIn n h × (n.body ≡ Drops (dropped h) (base h))) →
        (n : Envelope) × IsIn n (m ∷ h) × (n.body ≡ Drops (dropped (m ∷ h)) (base (m ∷ h)))
    go (Drops v b) q ih = subst (λ (y : Body). (n : Envelope) × IsIn n (m ∷ h) × (n.body ≡ Drops (later (dropped h) (dropped_by y)) (base_after h (base h) y))) (sym q) (new v b (before (dropped h) v) q (subst (λ (y : Body). before no_version (later (dropped h) (dropped_by y)) ≡ true) q e) ih)
    go _ q ih = subst (λ (y : Body). (n : Envelope) × IsIn n (m ∷ h) × (n.body ≡ Drops (later (dropped h) (dropped_by y)) (base_after h (base h) y))) (sym q) (other (subst (λ (y : Body). before no_version (later (dropped h) (dropped_by y)) ≡ true) q e) ih)

-- with nothing dropped there is no base
pub no_base : (h : Handled) → UpTo (dropped h) no_version → base h ≡ []
no_base [] e = refl
no_base (m ∷ h) e = go m.body e (λ f. no_base h f)
  where
    new : (v : Version) (b : List BaseEntry) (t : Bool) → before (dropped h) v ≡ t → UpTo (cond t v (dropped h)) no_version →
        (UpTo (dropped h) no_version → base h ≡ []) → cond t b (base h) ≡ []
    new v b true q f ih = absurd (true_false (sym (up_to_none (dropped h) v q) ∙ f))
    new v b false q f ih = ih f

    other : UpTo (later (dropped h) no_version) no_version → UpTo (dropped h) no_version
    other f = up_to_trans (dropped h) (later (dropped h) no_version) no_version (later_left (dropped h) no_version) f

    go : (c : Body) → UpTo (later (dropped h) (dropped_by c)) no_version → (UpTo (dropped h) no_version → base h ≡ []) → base_after h (base h) c ≡ []
    go (Drops v b) f ih = new v b (before (dropped h) v) refl f ih
    go _ f ih = ih (other f)

-- members of what passes, and of what is sorted
pub IsIn-filter : {A : Type 0} (p : A → Bool) (xs : List A) (a : A) → IsIn a xs → p a ≡ true → IsIn a (filter p xs)
IsIn-filter p [] a i e = i
IsIn-filter {A = A} p (x ∷ xs) a i e = go (λ j. IsIn-filter p xs a j e) (p x) refl i
  where
    go : (IsIn a xs → IsIn a (filter p xs)) → (t : Bool) → p x ≡ t → (a ≡ x) ⊎ IsIn a xs → IsIn a (cond t (x ∷ filter p xs) (filter p xs))
    go ih true q (inl z) = inl z
    go ih true q (inr i) = inr (ih i)
    go ih false q (inl z) = absurd (true_false (sym e ∙ (ap p z ∙ q)))
    go ih false q (inr i) = ih i

pub IsIn-filtered : {A : Type 0} (p : A → Bool) (xs : List A) (a : A) → IsIn a (filter p xs) → IsIn a xs × (p a ≡ true)
IsIn-filtered p [] a i = absurd i
IsIn-filtered {A = A} p (x ∷ xs) a i = go (λ j. IsIn-filtered p xs a j) (p x) refl i
  where
    go : (IsIn a (filter p xs) → IsIn a xs × (p a ≡ true)) → (t : Bool) → p x ≡ t → IsIn a (cond t (x ∷ filter p xs) (filter p xs)) →
        IsIn a (x ∷ xs) × (p a ≡ true)
    go ih true q (inl z) = (inl z, ap p z ∙ q)
    go ih true q (inr i) = let k = ih i in (inr k.0, k.1)
    go ih false q i = let k = ih i in (inr k.0, k.1)

in_put : (c : Kept) (ds : List Kept) (k : Kept) → (k ≡ c) ⊎ IsIn k ds → IsIn k (put_kept c ds)
in_put c [] k i = i
in_put c (d ∷ ds) k i = go (in_put c ds k) (exec_before c.exec d.exec) i
  where
    go : ((k ≡ c) ⊎ IsIn k ds → IsIn k (put_kept c ds)) → (t : Bool) → (k ≡ c) ⊎ IsIn k (d ∷ ds) → IsIn k (cond t (c ∷ d ∷ ds) (d ∷ put_kept c ds))
    go ih true i = i
    go ih false (inl z) = inr (ih (inl z))
    go ih false (inr (inl z)) = inl z
    go ih false (inr (inr i)) = inr (ih (inr i))

of_put : (c : Kept) (ds : List Kept) (k : Kept) → IsIn k (put_kept c ds) → (k ≡ c) ⊎ IsIn k ds
of_put c [] k i = i
of_put c (d ∷ ds) k i = go (of_put c ds k) (exec_before c.exec d.exec) i
  where
    go : (IsIn k (put_kept c ds) → (k ≡ c) ⊎ IsIn k ds) → (t : Bool) → IsIn k (cond t (c ∷ d ∷ ds) (d ∷ put_kept c ds)) → (k ≡ c) ⊎ IsIn k (d ∷ ds)
    go ih true i = i
    go ih false (inl z) = inr (inl z)
    go ih false (inr i) = elim (ih i) [ inl z ↦ inl z | inr j ↦ inr (inr j) ]

pub in_sorted : (cs : List Kept) (k : Kept) → IsIn k cs → IsIn k (sorted_kept cs)
in_sorted [] k i = i
in_sorted (c ∷ cs) k (inl z) = in_put c (sorted_kept cs) k (inl z)
in_sorted (c ∷ cs) k (inr i) = in_put c (sorted_kept cs) k (inr (in_sorted cs k i))

pub of_sorted : (cs : List Kept) (k : Kept) → IsIn k (sorted_kept cs) → IsIn k cs
of_sorted [] k i = i
of_sorted (c ∷ cs) k i = elim (of_put c (sorted_kept cs) k i) [ inl z ↦ inl z | inr j ↦ inr (of_sorted cs k j) ]

-- a cast is the verdict on a Prepare that was taken
pub cast_is : (h : Handled) (b : Body) (c : Cast) → IsIn c (new_cast h (casts h) b) →
    (b ≡ Prepare c.exec c.content) × (c.vote ≡ verdict h (casts h) c.exec c.content)
cast_is h (Prepare z k) c i = let g = IsIn-one_when _ _ c i in (rw g.1 refl, rw g.1 refl)
cast_is h _ c i = absurd i

pub cast_above_none : (h : Handled) → IsTaking h → (c : Cast) → IsIn c (casts h) → before no_version c.exec.ver ≡ true
cast_above_none [] t c i = absurd i
cast_above_none (m ∷ h) t c i = elim (IsIn-cases c (new_cast h (casts h) m.body) (casts h) i) [
  | inl j ↦ subst (λ (b : Body). is_above no_version (version_of b) ≡ true) (cast_is h m.body c j).0 (taken_above (m ∷ h) t m (inl refl))
  | inr j ↦ cast_above_none h t.1 c j
]

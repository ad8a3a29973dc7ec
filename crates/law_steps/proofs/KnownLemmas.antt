-- A content that a replica knows was taken by it, and it knows the content of whatever it voted, accepted or decided Commit.
use Rattle.std.proofs.Common.{◌≡◌, ℕ, ◌⊎◌, ◌≢◌, inl, inr, refl, ap, sym, ◌∙◌, subst, true, false, Bool, cond, List, [], ◌∷◌, ◌++◌, Option, Some, None}
use Rattle.std.specs.Prelude.{option_map, nat_le, ◌&&◌, not, find}
use Rattle.std.specs.Option.{is_none, option_or}
use Rattle.std.specs.Bool.{then_some}
use Rattle.std.proofs.lemmas.Bool.{not-true}
use Rattle.protocol.specs.Words.{Exec, Envelope, Body, Content, Kept, Choice, Abandon, ToCommit, Prepare, Finalize, Decide, same_exec}
use Rattle.protocol.specs.Lists.{IsIn, one_when}
use Rattle.protocol.specs.Replica.Taken.{Handled, takes, after_taking, lacks_content, is_above, version_of, dropped}
use Rattle.protocol.specs.Replica.Acceptor.{promised, Acceptance, acceptances, new_acceptance, decided, choice_for, commits, new_commit, accepted_content, accepted_content_for}
use Rattle.protocol.specs.Replica.Votes.{casts, cast_on, new_cast, Cast, known}
use Rattle.protocol.specs.World.Decided.{HasContent}
use Rattle.protocol.proofs.TestLemmas.{and_left, and_right}
use Rattle.protocol.proofs.NamesLemmas.{same_exec_tells, same_exec_refl, exec_is}
use Rattle.protocol.proofs.ListsLemmas.{IsIn-cases, IsIn-one_when}

abbrev pub Took : Handled → Exec → Content → Type 0
Took h x k = (m : Envelope) × IsIn m h × HasContent m.body x k

pub took_more : (m : Envelope) (h : Handled) (x : Exec) (k : Content) → Took h x k → Took (m ∷ h) x k
took_more m h x k t = (t.0, inr t.1, t.2)

-- what is found satisfies the test
pub found : {A : Type 0} (name : A → Exec) (x : Exec) (xs : List A) (a : A) → find (λ y. same_exec x (name y)) xs ≡ Some a → IsIn a xs × (name a ≡ x)
found name x [] a e = cc
found name x (y ∷ ys) a e = go (λ f. found name x ys a f) (same_exec x (name y)) (same_exec_tells x (name y)) e
  where
    go : (find (λ z. same_exec x (name z)) ys ≡ Some a → IsIn a ys × (name a ≡ x)) → (t : Bool) → ((t ≡ true) × (x ≡ name y)) ⊎ ((t ≡ false) × (x ≢ name y)) →
        cond t (Some y) (find (λ z. same_exec x (name z)) ys) ≡ Some a → IsIn a (y ∷ ys) × (name a ≡ x)
    go ih true (inl p) e = let f : y ≡ a = cc in (inl (sym f), ap name (sym f) ∙ sym p.1)
    go ih true (inr p) e = cc
    go ih false p e = let k = ih e in (inr k.0, k.1)

commit_step : (h : Handled) (m : Envelope) (b : Body) (c : Kept) → m.body ≡ b → IsIn c (new_commit h b) → HasContent m.body c.exec c.content
commit_step h m (Decide x ToCommit (Some k)) c q i = let j = IsIn-one_when _ _ c i in rw q (rw j.1 (refl, refl))
commit_step h m (Decide x ToCommit None) c q i = absurd i
commit_step h m (Decide x Abandon o) c q i = absurd i
commit_step h m _ c q i = absurd i

pub commit_taken : (h : Handled) (c : Kept) → IsIn c (commits h) → Took h c.exec c.content
commit_taken [] c i = absurd i
commit_taken (m ∷ h) c i = elim (IsIn-cases c (new_commit h m.body) (commits h) i) [
  | inl j ↦ (m, inl refl, commit_step h m m.body c refl j)
  | inr j ↦ took_more m h c.exec c.content (commit_taken h c j)
]

cast_step : (h : Handled) (m : Envelope) (b : Body) (c : Cast) → m.body ≡ b → IsIn c (new_cast h (casts h) b) → HasContent m.body c.exec c.content
cast_step h m (Prepare x k) c q i = let j = IsIn-one_when _ _ c i in rw q (rw j.1 (refl, refl))
cast_step h m _ c q i = absurd i

pub cast_taken : (h : Handled) (c : Cast) → IsIn c (casts h) → Took h c.exec c.content
cast_taken [] c i = absurd i
cast_taken (m ∷ h) c i = elim (IsIn-cases c (new_cast h (casts h) m.body) (casts h) i) [
  | inl j ↦ (m, inl refl, cast_step h m m.body c refl j)
  | inr j ↦ took_more m h c.exec c.content (cast_taken h c j)
]

content_step : (p : ℕ) (m : Envelope) (b : Body) (x : Exec) (k : Content) → m.body ≡ b → accepted_content_for p x b ≡ Some k → HasContent m.body x k
content_step p m (Finalize y v d (Some c)) x k q e = go (same_exec x y && nat_le p v) refl e
  where
    go : (t : Bool) → (same_exec x y && nat_le p v) ≡ t → then_some t c ≡ Some k → HasContent m.body x k
    go true f e = let g : x ≡ y = exec_is x y (and_left (same_exec x y) (nat_le p v) f) in rw q (sym g, e)
    go false f e = cc
content_step p m (Finalize y v d None) x k q e = cc
content_step p m _ x k q e = cc

accepted_taken : (h : Handled) (x : Exec) (k : Content) → accepted_content h x ≡ Some k → Took h x k
accepted_taken [] x k e = cc
accepted_taken (m ∷ h) x k e = go (λ f. accepted_taken h x k f) (accepted_content h x) refl e
  where
    go : (accepted_content h x ≡ Some k → Took h x k) → (o : Option Content) → accepted_content h x ≡ o →
        option_or o (accepted_content_for (promised h x) x m.body) ≡ Some k → Took (m ∷ h) x k
    go ih (Some c) f e = took_more m h x k (ih (f ∙ e))
    go ih None f e = (m, inl refl, content_step (promised h x) m m.body x k refl e)

-- what a replica knows it took
pub known_taken : (h : Handled) (x : Exec) (k : Content) → known h x ≡ Some k → Took h x k
known_taken h x k e = go (find (λ (y : Kept). same_exec x y.exec) (commits h)) refl (cast_on x (casts h)) refl e
  where
    go : (o : Option Kept) → find (λ (y : Kept). same_exec x y.exec) (commits h) ≡ o → (q : Option Cast) → cast_on x (casts h) ≡ q →
        option_or (option_map (λ (y : Kept). y.content) o) (option_or (option_map (λ (y : Cast). y.content) q) (accepted_content h x)) ≡ Some k → Took h x k
    go (Some c) f q g e = let i = found (λ (y : Kept). y.exec) x (commits h) c f in let z : c.content ≡ k = cc in subst (λ u. Took h x u) z (subst (λ u. Took h u c.content) i.1 (commit_taken h c i.0))
    go None f (Some c) g e = let i = found (λ (y : Cast). y.exec) x (casts h) c g in let z : c.content ≡ k = cc in subst (λ u. Took h x u) z (subst (λ u. Took h u c.content) i.1 (cast_taken h c i.0))
    go None f None g e = accepted_taken h x k e

-- a replica took no Commit without a content
abbrev pub IsWell : Handled → Type 0
IsWell [] = Unit {0}
IsWell (m ∷ h) = (lacks_content m.body ≡ false) × IsWell h

pub well_taking : (h : Handled) (m : Envelope) → IsWell h → IsWell (after_taking h m)
unfolding after_taking takes
well_taking h m i = go (is_above (dropped h) (version_of m.body) && not (lacks_content m.body)) refl
  where
    go : (t : Bool) → (is_above (dropped h) (version_of m.body) && not (lacks_content m.body)) ≡ t → IsWell (cond t (m ∷ h) h)
    go true e = (not-true _ (and_right (is_above (dropped h) (version_of m.body)) _ e), i)
    go false e = i

abbrev pub Finds : {A : Type 0} → Option A → Type 0
Finds None = ⊥
Finds (Some a) = Unit {0}

pub finds_cons : {A : Type 0} (t : Bool) (a : A) (o : Option A) → Finds o → Finds (cond t (Some a) o)
finds_cons true a o f = tt
finds_cons false a o f = f

pub some_from : {A : Type 0} (o : Option A) → Finds o → (a : A) × (o ≡ Some a)
some_from None f = absurd f
some_from (Some a) f = (a, refl)

abbrev pub commit_on : Exec → List Kept → Option Kept
commit_on x cs = find (λ (y : Kept). same_exec x y.exec) cs

new_commit_finds : (h : Handled) (b : Body) (x : Exec) → lacks_content b ≡ false → decided h x ≡ None → choice_for x b ≡ Some ToCommit →
    Finds (commit_on x (new_commit h b ++ commits h))
new_commit_finds h (Decide y ToCommit (Some k)) x l n e = go (same_exec x y) refl e
  where
    go : (t : Bool) → same_exec x y ≡ t → then_some t ToCommit ≡ Some ToCommit →
        Finds (commit_on x (one_when (is_none (decided h y)) (record { exec = y; content = k }) ++ commits h))
    go true f e = let g : x ≡ y = exec_is x y f in rw (← g, n, same_exec_refl) tt
    go false f e = cc
new_commit_finds h (Decide y ToCommit None) x l n e = cc
new_commit_finds h (Decide y Abandon o) x l n e = go (same_exec x y) e
  where
    go : (t : Bool) → then_some t Abandon ≡ Some ToCommit → Finds (commit_on x (commits h))
    go true e = cc
    go false e = cc
new_commit_finds h _ x l n e = cc

old_commit_finds : (h : Handled) (b : Body) (x : Exec) → Finds (commit_on x (commits h)) → Finds (commit_on x (new_commit h b ++ commits h))
old_commit_finds h (Decide y ToCommit (Some k)) x f = go (is_none (decided h y))
  where
    go : (t : Bool) → Finds (commit_on x (one_when t (record { exec = y; content = k }) ++ commits h))
    go true = finds_cons (same_exec x y) _ _ f
    go false = f
old_commit_finds h (Decide y ToCommit None) x f = f
old_commit_finds h (Decide y Abandon o) x f = f
old_commit_finds h _ x f = f

pub commit_finds : (h : Handled) (x : Exec) → IsWell h → decided h x ≡ Some ToCommit → Finds (commit_on x (commits h))
commit_finds [] x i e = cc
commit_finds (m ∷ h) x i e = go (λ f. commit_finds h x i.1 f) (decided h x) refl e
  where
    go : (decided h x ≡ Some ToCommit → Finds (commit_on x (commits h))) → (o : Option Choice) → decided h x ≡ o →
        option_or o (choice_for x m.body) ≡ Some ToCommit → Finds (commit_on x (commits (m ∷ h)))
    go ih (Some d) f e = old_commit_finds h m.body x (ih (f ∙ e))
    go ih None f e = new_commit_finds h m.body x i.0 f e

pub known_commit : (h : Handled) (x : Exec) → Finds (commit_on x (commits h)) → Finds (known h x)
known_commit h x f = let s = some_from (commit_on x (commits h)) f in rw s.1 tt

pub known_cast : (h : Handled) (x : Exec) → Finds (cast_on x (casts h)) → Finds (known h x)
known_cast h x f = go (commit_on x (commits h)) (some_from (cast_on x (casts h)) f)
  where
    go : (o : Option Kept) → (c : Cast) × (cast_on x (casts h) ≡ Some c) →
        Finds (option_or (option_map (λ (y : Kept). y.content) o) (option_or (option_map (λ (y : Cast). y.content) (cast_on x (casts h))) (accepted_content h x)))
    go (Some c) s = tt
    go None s = rw s.1 tt

pub known_accepted : (h : Handled) (x : Exec) → Finds (accepted_content h x) → Finds (known h x)
known_accepted h x f = go (commit_on x (commits h)) (cast_on x (casts h)) (some_from (accepted_content h x) f)
  where
    go : (o : Option Kept) (q : Option Cast) → (c : Content) × (accepted_content h x ≡ Some c) →
        Finds (option_or (option_map (λ (y : Kept). y.content) o) (option_or (option_map (λ (y : Cast). y.content) q) (accepted_content h x)))
    go (Some c) q s = tt
    go None (Some c) s = tt
    go None None s = rw s.1 tt

-- an acceptance of Commit brought a content
new_content_finds : (p : ℕ) (h : Handled) (b : Body) (x : Exec) (a : Acceptance) → p ≡ promised h x → lacks_content b ≡ false → a.choice ≡ ToCommit →
    a.exec ≡ x → IsIn a (new_acceptance h b) → Finds (accepted_content_for p x b)
new_content_finds p h (Finalize y v d (Some k)) x a q l c e i =
    let j = IsIn-one_when _ _ a i in let f : y ≡ x = ap (λ (z : Acceptance). z.exec) (sym j.1) ∙ e in let g : nat_le p v ≡ true = rw (q, ← f) j.0 in
    rw (f, same_exec_refl, g) tt
new_content_finds p h (Finalize y v ToCommit None) x a q l c e i = cc
new_content_finds p h (Finalize y v Abandon None) x a q l c e i = let j = IsIn-one_when _ _ a i in let f : a.choice ≡ Abandon = ap (λ (z : Acceptance). z.choice) j.1 in cc
new_content_finds p h _ x a q l c e i = absurd i

pub accepted_content_finds : (h : Handled) (x : Exec) (a : Acceptance) → IsWell h → IsIn a (acceptances h) → a.exec ≡ x → a.choice ≡ ToCommit →
    Finds (accepted_content h x)
accepted_content_finds [] x a w i e c = absurd i
accepted_content_finds (m ∷ h) x a w i e c =
    go (λ j. accepted_content_finds h x a w.1 j e c) (IsIn-cases a (new_acceptance h m.body) (acceptances h) i) (accepted_content h x) refl
  where
    go : (IsIn a (acceptances h) → Finds (accepted_content h x)) → IsIn a (new_acceptance h m.body) ⊎ IsIn a (acceptances h) → (o : Option Content) →
        accepted_content h x ≡ o → Finds (option_or o (accepted_content_for (promised h x) x m.body))
    go ih j (Some k) f = tt
    go ih (inl j) None f = new_content_finds (promised h x) h m.body x a refl w.0 c e j
    go ih (inr j) None f = absurd (subst Finds f (ih j))

-- an option that a function turns into a value
pub mapped_some : {A B : Type 0} (f : A → B) (o : Option A) (b : B) → option_map f o ≡ Some b → (a : A) × (o ≡ Some a) × (f a ≡ b)
mapped_some f None b e = cc
mapped_some f (Some a) b e = (a, refl, cc)

pub choice_cases : (c : Choice) → (c ≡ Abandon) ⊎ (c ≡ ToCommit)
choice_cases Abandon = inl refl
choice_cases ToCommit = inr refl

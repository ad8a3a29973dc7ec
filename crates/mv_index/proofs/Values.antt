-- The two lists of writes that are held, committed and not, as functions of executions.
use Rattle.std.proofs.Common.{◌≡◌, ◌≢◌, ◌⊎◌, inl, inr, ℕ, suc, Bool, true, false, cond, List, [], ◌∷◌, ◌++◌, refl, ap, sym, subst, ◌∙◌, Option, Some, None}
use Rattle.std.specs.Prelude.{filter, find, option_map, is_none}
use Rattle.std.specs.List.{filter_map, cons_option}
use Rattle.std.specs.Option.{option_or}
use Rattle.std.specs.Bool.{then_some}
use Rattle.morty_base.proofs.Orders.{same_exec_tells}
use Rattle.protocol.specs.Words.{Exec, Key, before, same_exec, same_key, Choice, ToCommit, Abandon, Write, Kept, Envelope, Body, Decide}
use Rattle.protocol.specs.declared.Held.{Held}
use Rattle.protocol.specs.Lists.{IsIn, one_when}
use Rattle.protocol.specs.Replica.Taken.{Handled, dropped}
use Rattle.protocol.specs.Replica.Acceptor.{commits, new_commit, decided, choice_for}
use Rattle.protocol.specs.Replica.Held.{last_write}
use Rattle.protocol.proofs.ListsLemmas.{IsIn-cases, IsIn-one_when}
use Rattle.mv_index.specs.HeldByExec.{committed_content, last_of_content, sure_by}
use Rattle.mv_index.proofs.Best.{AreValues, exec_of}

pub filter_in : {A : Type 0} (p : A → Bool) (xs : List A) (a : A) → IsIn a (filter p xs) → IsIn a xs × (p a ≡ true)
filter_in p [] a i = absurd i
filter_in {A} p (x ∷ xs) a i = go (p x) refl i (λ j. filter_in p xs a j)
  where
    go : (t : Bool) → p x ≡ t → IsIn a (cond t (x ∷ filter p xs) (filter p xs)) → (IsIn a (filter p xs) → IsIn a xs × (p a ≡ true)) →
        IsIn a (x ∷ xs) × (p a ≡ true)
    go true e (inl q) more = (inl q, ap p q ∙ e)
    go true e (inr j) more = let k = more j in (inr k.0, k.1)
    go false e j more = let k = more j in (inr k.0, k.1)

pub in_filter : {A : Type 0} (p : A → Bool) (xs : List A) (a : A) → IsIn a xs → p a ≡ true → IsIn a (filter p xs)
in_filter p [] a i e = absurd i
in_filter {A} p (x ∷ xs) a i e = go (p x) refl i (λ j. in_filter p xs a j e)
  where
    go : (t : Bool) → p x ≡ t → IsIn a (x ∷ xs) → (IsIn a xs → IsIn a (filter p xs)) → IsIn a (cond t (x ∷ filter p xs) (filter p xs))
    go true f (inl q) more = inl q
    go true f (inr j) more = inr (more j)
    go false f (inl q) more = let z : p a ≡ false = ap p q ∙ f in absurd cc
    go false f (inr j) more = more j

pub filter_map_in : {A B : Type 0} (f : A → Option B) (xs : List A) (b : B) → IsIn b (filter_map f xs) → (a : A) × IsIn a xs × (f a ≡ Some b)
filter_map_in f [] b i = absurd i
filter_map_in {A} {B} f (x ∷ xs) b i = go (f x) refl i (λ j. filter_map_in f xs b j)
  where
    go : (o : Option B) → f x ≡ o → IsIn b (cons_option o (filter_map f xs)) → (IsIn b (filter_map f xs) → (a : A) × IsIn a xs × (f a ≡ Some b)) →
        (a : A) × IsIn a (x ∷ xs) × (f a ≡ Some b)
    go None e j more = let k = more j in (k.0, inr k.1, k.2)
    go (Some c) e (inl q) more = (x, inl refl, e ∙ ap Some (sym q))
    go (Some c) e (inr j) more = let k = more j in (k.0, inr k.1, k.2)

pub in_filter_map : {A B : Type 0} (f : A → Option B) (xs : List A) (a : A) (b : B) → IsIn a xs → f a ≡ Some b → IsIn b (filter_map f xs)
in_filter_map f [] a b i e = absurd i
in_filter_map {A} {B} f (x ∷ xs) a b (inl q) e = subst (λ o. IsIn b (cons_option o (filter_map f xs))) (sym (ap f (sym q) ∙ e)) (inl refl)
in_filter_map {A} {B} f (x ∷ xs) a b (inr j) e = go (f x) (in_filter_map f xs a b j e)
  where
    go : (o : Option B) → IsIn b (filter_map f xs) → IsIn b (cons_option o (filter_map f xs))
    go None k = k
    go (Some c) k = inr k

-- what a search finds stands in the list
pub find_in : {A : Type 0} (p : A → Bool) (xs : List A) (a : A) → find p xs ≡ Some a → IsIn a xs × (p a ≡ true)
find_in p [] a e = absurd cc
find_in {A} p (x ∷ xs) a e = go (p x) refl e (λ g. find_in p xs a g)
  where
    go : (t : Bool) → p x ≡ t → cond t (Some x) (find p xs) ≡ Some a → (find p xs ≡ Some a → IsIn a xs × (p a ≡ true)) → IsIn a (x ∷ xs) × (p a ≡ true)
    go true f e more = let q : x ≡ a = cc in (inl (sym q), ap p (sym q) ∙ f)
    go false f e more = let k = more e in (inr k.0, k.1)

-- the last write of a key is one of its execution
pub last_write_exec : (x : Exec) (sure : Bool) (i : ℕ) (k : Key) (ws : List Write) (a : Held) → last_write x sure i k ws ≡ Some a → exec_of a.wid ≡ x
last_write_exec x sure i k [] a e = absurd cc
last_write_exec x sure i k (w ∷ ws) a e = go (last_write x sure (suc i) k ws) (λ g. last_write_exec x sure (suc i) k ws a g) (same_key k w.key) e
  where
    go : (o : Option Held) → (o ≡ Some a → exec_of a.wid ≡ x) → (t : Bool) →
        option_or o (then_some t (record { wid = record { ver = x.ver; eid = x.eid; seq = i }; value = w.value; sure = sure })) ≡ Some a → exec_of a.wid ≡ x
    go (Some b) f t e = f e
    go None f true e = let q : record { wid = record { ver = x.ver; eid = x.eid; seq = i }; value = w.value; sure = sure } ≡ a = cc in
        sym (ap (λ (b : Held). exec_of b.wid) q)
    go None f false e = absurd cc

-- ---- committed contents

-- a committed execution is decided
decided_more : (h : Handled) (m : Envelope) (x : Exec) → is_none (decided (m ∷ h) x) ≡ true → is_none (decided h x) ≡ true
decided_more h m x e = go (decided h x) e
  where
    go : (o : Option Choice) → is_none (option_or o (choice_for x m.body)) ≡ true → is_none o ≡ true
    go None e = refl
    go (Some d) e = e

same_exec_self : (x : Exec) → same_exec x x ≡ true
same_exec_self x = elim (same_exec_tells x x) [ inl p ↦ p.0 | inr p ↦ absurd (p.1 refl) ]

new_commit_decides : (h : Handled) (b : Body) (c : Kept) → IsIn c (new_commit h b) → (is_none (decided h c.exec) ≡ true) × (choice_for c.exec b ≡ Some ToCommit)
new_commit_decides h (Decide x ToCommit (Some d)) c i =
    let k = IsIn-one_when (is_none (decided h x)) (record { exec = x; content = d }) c i in
    let e : c.exec ≡ x = ap (λ (y : Kept). y.exec) k.1 in (
      subst (λ y. is_none (decided h y) ≡ true) (sym e) k.0,
      subst (λ y. then_some (same_exec y x) ToCommit ≡ Some ToCommit) (sym e) (ap (λ t. then_some t ToCommit) (same_exec_self x)),
    )
new_commit_decides h (Decide x ToCommit None) c i = absurd i
new_commit_decides h (Decide x Abandon o) c i = absurd i
new_commit_decides h _ c i = absurd i

pub commit_decides : (h : Handled) (c : Kept) → IsIn c (commits h) → is_none (decided h c.exec) ≡ true → ⊥
commit_decides [] c i e = i
commit_decides (m ∷ h) c i e = elim (IsIn-cases c (new_commit h m.body) (commits h) i) [
  | inl j ↦ new m.body (new_commit_decides h m.body c j) e
  | inr j ↦ commit_decides h c j (decided_more h m c.exec e)
]
  where
    new : (b : Body) → (is_none (decided h c.exec) ≡ true) × (choice_for c.exec b ≡ Some ToCommit) →
        is_none (option_or (decided h c.exec) (choice_for c.exec b)) ≡ true → ⊥
    new b k e = by (decided h c.exec) k.0 (subst (λ o. is_none (option_or (decided h c.exec) o) ≡ true) k.1 e)
      where
        by : (o : Option Choice) → is_none o ≡ true → is_none (option_or o (Some ToCommit)) ≡ true → ⊥
        by None p q = cc
        by (Some d) p q = cc

-- a search for a committed execution finds it
pub commit_found : (h : Handled) (c : Kept) → IsIn c (commits h) → find (λ d. same_exec c.exec d.exec) (commits h) ≡ Some c
commit_found [] c i = absurd i
commit_found (m ∷ h) c i = by_body m.body i (λ j. commit_found h c j)
  where
    old : (d : Kept) → IsIn c (commits h) → find (λ y. same_exec c.exec y.exec) (commits h) ≡ Some c → is_none (decided h d.exec) ≡ true →
        cond (same_exec c.exec d.exec) (Some d) (find (λ y. same_exec c.exec y.exec) (commits h)) ≡ Some c
    old d j f e = go (same_exec c.exec d.exec) (same_exec_tells c.exec d.exec)
      where
        go : (t : Bool) → ((t ≡ true) × (c.exec ≡ d.exec)) ⊎ ((t ≡ false) × (c.exec ≢ d.exec)) →
            cond t (Some d) (find (λ y. same_exec c.exec y.exec) (commits h)) ≡ Some c
        go true (inl q) = absurd (commit_decides h c j (subst (λ y. is_none (decided h y) ≡ true) (sym q.1) e))
        go true (inr q) = absurd (cc (q.0))
        go false q = f

    by_decision : (d : Kept) (t : Bool) → is_none (decided h d.exec) ≡ t → IsIn c (one_when t d ++ commits h) →
        (IsIn c (commits h) → find (λ y. same_exec c.exec y.exec) (commits h) ≡ Some c) → find (λ y. same_exec c.exec y.exec) (one_when t d ++ commits h)
        ≡ Some c
    by_decision d true e (inl q) more =
        let s : same_exec c.exec d.exec ≡ true = subst (λ (y : Kept). same_exec c.exec y.exec ≡ true) q (same_exec_self c.exec) in
        ap (λ t. cond t (Some d) (find (λ y. same_exec c.exec y.exec) (commits h))) s ∙ ap Some (sym q)
    by_decision d true e (inr j) more = old d j (more j) e
    by_decision d false e j more = more j

    by_body : (b : Body) → IsIn c (new_commit h b ++ commits h) → (IsIn c (commits h) → find (λ y. same_exec c.exec y.exec) (commits h) ≡ Some c) →
        find (λ d. same_exec c.exec d.exec) (new_commit h b ++ commits h) ≡ Some c
    by_body (Decide x ToCommit (Some d)) i more = by_decision (record { exec = x; content = d }) (is_none (decided h x)) refl i more
    by_body (Decide x ToCommit None) i more = more i
    by_body (Decide x Abandon o) i more = more i
    by_body _ i more = more i

abbrev last_commit : Key → Kept → Option Held
last_commit k c = last_write c.exec true 1 k c.content.writes

abbrev kept_commits : Handled → List Kept
kept_commits h = filter (λ c. before (dropped h) c.exec.ver) (commits h)

sure_one : (h : Handled) (k : Key) (c : Kept) (x : Exec) → IsIn c (commits h) → before (dropped h) c.exec.ver ≡ true → c.exec ≡ x →
    sure_by h k x ≡ last_commit k c
unfolding sure_by
sure_one h k c x i b e =
    subst (λ y. cond (before (dropped h) y.ver) (last_of_content k y (committed_content h y)) None ≡ last_commit k c) e
    (ap (λ t. cond t (last_of_content k c.exec (committed_content h c.exec)) None) b
    ∙ ap (λ o. last_of_content k c.exec (option_map (λ (d : Kept). d.content) o)) (commit_found h c i))

sure_some : (h : Handled) (k : Key) (x : Exec) (a : Held) → sure_by h k x ≡ Some a → (c : Kept) × IsIn c (kept_commits h) × (last_commit k c ≡ Some a)
    × (c.exec ≡ x)
unfolding sure_by
sure_some h k x a e = go (before (dropped h) x.ver) refl e
  where
    by : (o : Option Kept) → find (λ c. same_exec x c.exec) (commits h) ≡ o → before (dropped h) x.ver ≡ true →
        last_of_content k x (option_map (λ (c : Kept). c.content) o) ≡ Some a → (c : Kept) × IsIn c (kept_commits h) × (last_commit k c ≡ Some a) × (c.exec ≡ x)
    by None f b e = absurd cc
    by (Some c) f b e =
        let i = find_in (λ (c : Kept). same_exec x c.exec) (commits h) c f in
        let q : x ≡ c.exec = elim (same_exec_tells x c.exec) [ inl p ↦ p.1 | inr p ↦ absurd (p.1 (absurd cc)) ] in (
          c,
          in_filter (λ (c : Kept). before (dropped h) c.exec.ver) (commits h) c i.0 (subst (λ y. before (dropped h) y.ver ≡ true) q b),
          subst (λ y. last_write y true 1 k c.content.writes ≡ Some a) q e,
          sym q,
        )

    go : (t : Bool) → before (dropped h) x.ver ≡ t → cond t (last_of_content k x (committed_content h x)) None ≡ Some a → (c : Kept) × IsIn c (kept_commits h)
        × (last_commit k c ≡ Some a) × (c.exec ≡ x)
    go true b e = by (find (λ c. same_exec x c.exec) (commits h)) refl b e
    go false b e = absurd cc

pub sure_values : (h : Handled) (k : Key) → AreValues (sure_by h k) (filter_map (λ c. last_write c.exec true 1 k c.content.writes)
    (filter (λ c. before (dropped h) c.exec.ver) (commits h)))
sure_values h k = record {
  sound = λ a i.
      let f = filter_map_in (last_commit k) (kept_commits h) a i in
      let g = filter_in (λ (c : Kept). before (dropped h) c.exec.ver) (commits h) f.0 f.1 in
      sure_one h k f.0 (exec_of a.wid) g.0 g.1 (sym (last_write_exec f.0.exec true 1 k f.0.content.writes a f.2)) ∙ f.2;
  complete = λ x a e.
      let s = sure_some h k x a e in
      (in_filter_map (last_commit k) (kept_commits h) s.0 a s.1 s.2, last_write_exec s.0.exec true 1 k s.0.content.writes a s.2 ∙ s.3);
}

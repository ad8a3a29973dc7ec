-- A rising list of the committed contents at or below a version is the sorted one.
use Rattle.std.proofs.Common.{◌≡◌, ◌⊎◌, inl, inr, Bool, true, false, cond, List, [], ◌∷◌, ◌++◌, Option, Some, None, refl, ap, sym, subst, ◌∙◌, ◌&&◌}
use Rattle.std.specs.Prelude.{not, filter, is_none, option_map, find}
use Rattle.morty_base.proofs.Orders.{same_exec_tells, exec_before_total}
use Rattle.protocol.specs.Words.{Version, Exec, Content, Kept, Body, Decide, ToCommit, Abandon, before, same_exec, exec_before}
use Rattle.protocol.specs.Lists.{IsIn, IsRisingBy, one_when}
use Rattle.protocol.specs.Replica.Taken.{Handled, dropped}
use Rattle.protocol.specs.Replica.Acceptor.{decided, commits, new_commit}
use Rattle.protocol.specs.Replica.Says.{put_kept, sorted_kept, committed_upto}
use Rattle.protocol.proofs.TestLemmas.{and_left, and_right}
use Rattle.mv_index.proofs.RisingLemmas.{IsStrict, same_members}
use Rattle.mv_index.specs.HeldByExec.{committed_content}
use Rattle.mv_index.specs.ContentTable.{stands_first, IsListUpTo}
use Rattle.mv_index.proofs.Values.{filter_in, in_filter, find_in, commit_decides, commit_found}

-- each execution is there once
abbrev pub AreApart : List Kept → Type 0
AreApart [] = Unit {0}
AreApart (c ∷ cs) = ((d : Kept) → IsIn d cs → same_exec c.exec d.exec ≡ false) × AreApart cs

put_in : (c : Kept) (ds : List Kept) (d : Kept) → IsIn d (put_kept c ds) → (d ≡ c) ⊎ IsIn d ds
put_in c [] d i = i
put_in c (e ∷ es) d i = go (exec_before c.exec e.exec) i (put_in c es d)
  where
    go : (t : Bool) → IsIn d (cond t (c ∷ e ∷ es) (e ∷ put_kept c es)) → (IsIn d (put_kept c es) → (d ≡ c) ⊎ IsIn d es) → (d ≡ c) ⊎ IsIn d (e ∷ es)
    go true i more = i
    go false (inl q) more = inr (inl q)
    go false (inr j) more = elim (more j) [ inl q ↦ inl q | inr k ↦ inr (inr k) ]

in_put : (c : Kept) (ds : List Kept) (d : Kept) → (d ≡ c) ⊎ IsIn d ds → IsIn d (put_kept c ds)
in_put c [] d i = i
in_put c (e ∷ es) d i = go (exec_before c.exec e.exec) i (in_put c es d)
  where
    go : (t : Bool) → (d ≡ c) ⊎ IsIn d (e ∷ es) → ((d ≡ c) ⊎ IsIn d es → IsIn d (put_kept c es)) → IsIn d (cond t (c ∷ e ∷ es) (e ∷ put_kept c es))
    go true i more = i
    go false (inl q) more = inr (more (inl q))
    go false (inr (inl q)) more = inl q
    go false (inr (inr k)) more = inr (more (inr k))

sorted_in : (cs : List Kept) (d : Kept) → IsIn d (sorted_kept cs) → IsIn d cs
sorted_in [] d i = i
sorted_in (c ∷ cs) d i = elim (put_in c (sorted_kept cs) d i) [ inl q ↦ inl q | inr j ↦ inr (sorted_in cs d j) ]

in_sorted : (cs : List Kept) (d : Kept) → IsIn d cs → IsIn d (sorted_kept cs)
in_sorted [] d i = i
in_sorted (c ∷ cs) d (inl q) = in_put c (sorted_kept cs) d (inl q)
in_sorted (c ∷ cs) d (inr j) = in_put c (sorted_kept cs) d (inr (in_sorted cs d j))

after_not : (x y : Exec) → exec_before x y ≡ false → same_exec x y ≡ false → exec_before y x ≡ true
after_not x y a b = go (exec_before y x) refl
  where
    go : (t : Bool) → exec_before y x ≡ t → t ≡ true
    go true e = refl
    go false e =
        let same : x ≡ y = exec_before_total.total x y a e in
        elim (same_exec_tells x y) [ inl q ↦ absurd (cc (q.0, b)) | inr q ↦ absurd (q.1 same) ]

put_rises : (c : Kept) (ds : List Kept) → IsRisingBy stands_first ds → ((d : Kept) → IsIn d ds → same_exec c.exec d.exec ≡ false) →
    IsRisingBy stands_first (put_kept c ds)
put_rises c [] r a = (λ d i. absurd i, tt)
put_rises c (e ∷ es) r a = go (exec_before c.exec e.exec) refl (put_rises c es r.1 (λ d i. a d (inr i)))
  where
    go : (t : Bool) → exec_before c.exec e.exec ≡ t → IsRisingBy stands_first (put_kept c es) →
        IsRisingBy stands_first (cond t (c ∷ e ∷ es) (e ∷ put_kept c es))
    go true f more = (
      λ d i. elim i [
        | inl q ↦ subst (λ (z : Kept). exec_before c.exec z.exec ≡ true) (sym q) f
        | inr j ↦
            exec_before_total.transitive c.exec e.exec d.exec f (r.0 d j)
      ],
      r,
    )
    go false f more = (
      λ d i. elim (put_in c es d i) [
        | inl q ↦ subst (λ (z : Kept). exec_before e.exec z.exec ≡ true) (sym q) (after_not c.exec e.exec f (a e (inl refl)))
        | inr j ↦ r.0 d j
      ],
      more,
    )

sorted_rises : (cs : List Kept) → AreApart cs → IsRisingBy stands_first (sorted_kept cs)
sorted_rises [] a = tt
sorted_rises (c ∷ cs) a = put_rises c (sorted_kept cs) (sorted_rises cs a.1) (λ d i. a.0 d (sorted_in cs d i))

strict : IsStrict stands_first
strict = record { itself = λ c. exec_before_total.irreflexive c.exec; chain = λ a b c p q. exec_before_total.transitive a.exec b.exec c.exec p q }

-- a rising list of the same contents is the sorted one
pub sorted_is : (l cs : List Kept) → IsRisingBy stands_first l → AreApart cs → ((d : Kept) → IsIn d l → IsIn d cs) → ((d : Kept) → IsIn d cs → IsIn d l) →
    l ≡ sorted_kept cs
sorted_is l cs r a f g = same_members stands_first strict l (sorted_kept cs) r (sorted_rises cs a) (λ d i. in_sorted cs d (f d i)) (λ d i.
    g d (sorted_in cs d i))

-- ---- committed contents

filter_apart : (p : Kept → Bool) (cs : List Kept) → AreApart cs → AreApart (filter p cs)
filter_apart p [] a = tt
filter_apart p (c ∷ cs) a = go (p c) (filter_apart p cs a.1)
  where
    go : (t : Bool) → AreApart (filter p cs) → AreApart (cond t (c ∷ filter p cs) (filter p cs))
    go true more = (λ d i. a.0 d (filter_in p cs d i).0, more)
    go false more = more

pub apart_of : (x y : Exec) → (x ≡ y → ⊥) → same_exec x y ≡ false
apart_of x y n = elim (same_exec_tells x y) [ inl q ↦ absurd (n q.1) | inr q ↦ q.0 ]

commits_apart : (h : Handled) → AreApart (commits h)
commits_apart [] = tt
commits_apart (m ∷ h) = go m.body (commits_apart h)
  where
    add : (t : Bool) (c : Kept) → is_none (decided h c.exec) ≡ t → AreApart (commits h) → AreApart (one_when t c ++ commits h)
    add true c e more = (λ d i. apart_of c.exec d.exec (λ q. commit_decides h d i (subst (λ z. is_none (decided h z) ≡ true) q e)), more)
    add false c e more = more

    go : (b : Body) → AreApart (commits h) → AreApart (new_commit h b ++ commits h)
    go (Decide x ToCommit (Some c)) more = add (is_none (decided h x)) (record { exec = x; content = c }) refl more
    go (Decide x ToCommit None) more = more
    go (Decide x Abandon c) more = more
    go _ more = more

pub both : (a b : Bool) → a ≡ true → b ≡ true → (a && b) ≡ true
both true b e f = f
both false b e f = cc

pub turned : (t : Bool) → not t ≡ true → t ≡ false
turned true e = cc
turned false e = refl

pub turned_back : (t : Bool) → t ≡ false → not t ≡ true
turned_back true e = cc
turned_back false e = refl

pub some_is : {A : Type 0} (a b : A) → Some a ≡ Some b → a ≡ b
some_is a b e = cc

pub above_is : (h : Handled) (x : Exec) (d : Content) (o : Option Content) (f : Option Content) → f ≡ cond (before (dropped h) x.ver) o None →
    before (dropped h) x.ver ≡ true → o ≡ Some d → f ≡ Some d
above_is h x d o f e b g = e ∙ (ap (λ t. cond t o None) b ∙ g)

pub above_cond : (t : Bool) (o : Option Content) (d : Content) → cond t o None ≡ Some d → (t ≡ true) × (o ≡ Some d)
above_cond true o d e = (refl, e)
above_cond false o d e = absurd cc

committed_in : (h : Handled) (x : Exec) (d : Content) → committed_content h x ≡ Some d → IsIn (record { exec = x; content = d }) (commits h)
committed_in h x d e = go (find (λ c. same_exec x c.exec) (commits h)) refl e
  where
    go : (o : Option Kept) → find (λ (c : Kept). same_exec x c.exec) (commits h) ≡ o → option_map (λ (c : Kept). c.content) o ≡ Some d →
        IsIn (record { exec = x; content = d }) (commits h)
    go None f g = absurd cc
    go (Some c) f g =
        let i = find_in (λ (c : Kept). same_exec x c.exec) (commits h) c f in
        let q : c.exec ≡ x = elim (same_exec_tells x c.exec) [ inl s ↦ sym s.1 | inr s ↦ absurd (cc (s.0, i.1)) ] in
        let k : c ≡ record { exec = x; content = d } = ap (λ y. let z : Kept = record { exec = y; content = c.content } in z) q
        ∙ ap (λ y. let z : Kept = record { exec = x; content = y } in z) (some_is c.content d g) in
        subst (λ z. IsIn z (commits h)) k i.0

in_committed : (h : Handled) (c : Kept) → IsIn c (commits h) → committed_content h c.exec ≡ Some c.content
in_committed h c i = ap (λ o. option_map (λ (z : Kept). z.content) o) (commit_found h c i)

-- the list of a table of the committed contents
pub committed_list : (h : Handled) (f : Exec → Option Content) (w : Version) (l : List Kept) →
    ((x : Exec) → f x ≡ cond (before (dropped h) x.ver) (committed_content h x) None) → IsListUpTo f w l → l ≡ committed_upto h w
unfolding committed_upto
committed_list h f w l e s = sorted_is l (filter among (commits h)) s.rises (filter_apart among (commits h) (commits_apart h)) there back
  where
    among : Kept → Bool
    among c = before (dropped h) c.exec.ver && not (before w c.exec.ver)

    there : (c : Kept) → IsIn c l → IsIn c (filter among (commits h))
    there c i =
        let k = s.sound c i in
        let a = above_cond (before (dropped h) c.exec.ver) (committed_content h c.exec) c.content (sym (e c.exec) ∙ k.0) in
        in_filter among (commits h) c (committed_in h c.exec c.content a.1) (both _ _ a.0 (turned_back (before w c.exec.ver) k.1))

    back : (c : Kept) → IsIn c (filter among (commits h)) → IsIn c l
    back c i =
        let k = filter_in among (commits h) c i in
        s.complete c (above_is h c.exec c.content (committed_content h c.exec) (f c.exec) (e c.exec) (and_left (before (dropped h) c.exec.ver) _ k.1)
        (in_committed h c k.0))
        (turned (before w c.exec.ver) (and_right (before (dropped h) c.exec.ver) (not (before w c.exec.ver)) k.1))

-- The writes of Puts that are held, as a function of executions.
use Rattle.std.proofs.Common.{◌≡◌, ◌≢◌, ◌⊎◌, inl, inr, Bool, true, false, cond, List, [], ◌∷◌, ◌++◌, refl, ap, sym, subst, ◌∙◌, Option, Some, None, ◌&&◌, ◌||◌}
use Rattle.std.specs.Prelude.{not, filter}
use Rattle.std.specs.List.{list_any, filter_map}
use Rattle.std.specs.Bool.{then_some}
use Rattle.morty_base.proofs.Orders.{same_exec_tells, same_version_tells}
use Rattle.protocol.specs.Words.{Version, Exec, Key, before, same_version, same_exec, Kept, Body, Puts}
use Rattle.protocol.specs.declared.Held.{Held}
use Rattle.protocol.specs.Lists.{IsIn}
use Rattle.protocol.specs.Replica.Taken.{Handled, dropped}
use Rattle.protocol.specs.Replica.Acceptor.{commits}
use Rattle.protocol.specs.Replica.Held.{Put, larger, put_after, put_version, put_versions, last_write, last_put, counting_put, kept_put}
use Rattle.protocol.proofs.TestLemmas.{and_left, and_right}
use Rattle.protocol.proofs.ListsLemmas.{IsIn-left, IsIn-right}
use Rattle.mv_index.specs.HeldByExec.{has_commit, is_blocked, last_of_put, open_by}
use Rattle.mv_index.proofs.Best.{AreValues}
use Rattle.mv_index.proofs.Values.{filter_in, in_filter, filter_map_in, in_filter_map, last_write_exec}

any_version : (v : Version) (vs : List Version) → list_any (same_version v) vs ≡ true → IsIn v vs
any_version v [] e = absurd cc
any_version v (u ∷ vs) e = go (same_version v u) (same_version_tells v u) e (any_version v vs)
  where
    go : (t : Bool) → ((t ≡ true) × (v ≡ u)) ⊎ ((t ≡ false) × (v ≢ u)) → (t || list_any (same_version v) vs) ≡ true →
        (list_any (same_version v) vs ≡ true → IsIn v vs) → IsIn v (u ∷ vs)
    go true (inl q) e more = inl q.1
    go true (inr q) e more = absurd (cc (q.0))
    go false q e more = inr (more e)

larger_ver : (v : Version) (o : Option Put) (q p : Put) → q.exec.ver ≡ v → ((r : Put) → o ≡ Some r → r.exec.ver ≡ v) → larger o q ≡ Some p → p.exec.ver ≡ v
larger_ver v None q p e f g = let z : q ≡ p = cc in subst (λ (y : Put). y.exec.ver ≡ v) z e
larger_ver v (Some r) q p e f g = go _ g
  where
    go : (t : Bool) → Some (cond t q r) ≡ Some p → p.exec.ver ≡ v
    go true g = let z : q ≡ p = cc in subst (λ (y : Put). y.exec.ver ≡ v) z e
    go false g = let z : r ≡ p = cc in subst (λ (y : Put). y.exec.ver ≡ v) z (f r refl)

-- what is kept of a version is of that version, and the version is listed
kept_step : (h : Handled) (v : Version) (b : Body) (p : Put) → ((q : Put) → kept_put h v ≡ Some q → (q.exec.ver ≡ v) × IsIn v (put_versions h)) →
    put_after v (kept_put h v) b ≡ Some p → (p.exec.ver ≡ v) × IsIn v (put_version (put_versions h) b)
kept_step h v (Puts x ws) p old e = go (same_version v x.ver) (same_version_tells v x.ver) e
  where
    listed : (t : Bool) → list_any (same_version x.ver) (put_versions h) ≡ t → (v ≡ x.ver) ⊎ IsIn v (put_versions h) →
        IsIn v (cond t (put_versions h) (put_versions h ++ x.ver ∷ []))
    listed true f (inl q) = any_version v (put_versions h) (subst (λ u. list_any (same_version u) (put_versions h) ≡ true) (sym q) f)
    listed true f (inr i) = i
    listed false f (inl q) = IsIn-right v (put_versions h) (x.ver ∷ []) (inl q)
    listed false f (inr i) = IsIn-left v (put_versions h) (x.ver ∷ []) i

    go : (t : Bool) → ((t ≡ true) × (v ≡ x.ver)) ⊎ ((t ≡ false) × (v ≢ x.ver)) →
        cond t (larger (kept_put h v) (record { exec = x; writes = ws })) (kept_put h v) ≡ Some p →
        (p.exec.ver ≡ v) × IsIn v (cond (list_any (same_version x.ver) (put_versions h)) (put_versions h) (put_versions h ++ x.ver ∷ []))
    go true (inl q) e = (
      larger_ver v (kept_put h v) (record { exec = x; writes = ws }) p (sym q.1) (λ r f. (old r f).0) e,
      listed (list_any (same_version x.ver) (put_versions h)) refl (inl q.1),
    )
    go true (inr q) e = absurd (cc (q.0))
    go false q e = let k = old p e in (k.0, listed (list_any (same_version x.ver) (put_versions h)) refl (inr k.1))
kept_step h v _ p old e = old p e

pub kept_is : (h : Handled) (v : Version) (p : Put) → kept_put h v ≡ Some p → (p.exec.ver ≡ v) × IsIn v (put_versions h)
kept_is [] v p e = absurd cc
kept_is (m ∷ h) v p e = kept_step h v m.body p (kept_is h v) e

-- of a version above the dropped one the contents above it are all that there are
pub any_kept : (d v : Version) (cs : List Kept) → before d v ≡ true → list_any (λ c. same_version v c.exec.ver) (filter (λ c. before d c.exec.ver) cs)
    ≡ list_any (λ c. same_version v c.exec.ver) cs
any_kept d v [] e = refl
any_kept d v (c ∷ cs) e = go (before d c.exec.ver) refl (same_version v c.exec.ver) (same_version_tells v c.exec.ver) (any_kept d v cs e)
  where
    go : (s : Bool) → before d c.exec.ver ≡ s → (t : Bool) → ((t ≡ true) × (v ≡ c.exec.ver)) ⊎ ((t ≡ false) × (v ≢ c.exec.ver)) →
        list_any (λ c. same_version v c.exec.ver) (filter (λ c. before d c.exec.ver) cs) ≡ list_any (λ c. same_version v c.exec.ver) cs →
        list_any (λ c. same_version v c.exec.ver) (cond s (c ∷ filter (λ c. before d c.exec.ver) cs) (filter (λ c. before d c.exec.ver) cs))
        ≡ (t || list_any (λ c. same_version v c.exec.ver) cs)
    go true f t q more = by t q
      where
        by : (t : Bool) → ((t ≡ true) × (v ≡ c.exec.ver)) ⊎ ((t ≡ false) × (v ≢ c.exec.ver)) →
            (same_version v c.exec.ver || list_any (λ c. same_version v c.exec.ver) (filter (λ c. before d c.exec.ver) cs))
            ≡ (t || list_any (λ c. same_version v c.exec.ver) cs)
        by t q = elim (same_version_tells v c.exec.ver) [
          | inl r ↦ elim q [
            | inl u ↦ ap (λ b. b || list_any (λ c. same_version v c.exec.ver) (filter (λ c. before d c.exec.ver) cs)) r.0
                ∙ ap (λ b. b || list_any (λ c. same_version v c.exec.ver) cs) (sym u.0)
            | inr u ↦ absurd (u.1 r.1)
          ]
          | inr r ↦ elim q [
            | inl u ↦ absurd (r.1 u.1)
            | inr u ↦
                ap (λ b. b || list_any (λ c. same_version v c.exec.ver) (filter (λ c. before d c.exec.ver) cs)) r.0
                ∙ (more ∙ ap (λ b. b || list_any (λ c. same_version v c.exec.ver) cs) (sym u.0))
          ]
        ]
    go false f true (inl q) more = let z : before d c.exec.ver ≡ true = subst (λ u. before d u ≡ true) q.1 e in absurd cc
    go false f true (inr q) more = absurd (cc (q.0))
    go false f false q more = more

abbrev open_versions : Handled → List Version
open_versions h = filter (λ v. before (dropped h) v
    && not (list_any (λ c. same_version v c.exec.ver) (filter (λ c. before (dropped h) c.exec.ver) (commits h)))) (put_versions h)

abbrev last_counting : Handled → Key → Version → Option Held
last_counting h k v = last_put k (counting_put h v (kept_put h v))

-- what a counting Puts holds, with the Puts
counted : (h : Handled) (v : Version) (k : Key) (o : Option Put) (a : Held) → last_put k (counting_put h v o) ≡ Some a →
    (p : Put) × (o ≡ Some p) × (is_blocked h v p.exec.eid ≡ false) × (last_write p.exec false 1 k p.writes ≡ Some a)
counted h v k None a e = absurd cc
counted h v k (Some p) a e = go (is_blocked h v p.exec.eid) refl e
  where
    go : (t : Bool) → is_blocked h v p.exec.eid ≡ t → last_put k (then_some (not t) p) ≡ Some a →
        (q : Put) × (Some p ≡ Some q) × (is_blocked h v q.exec.eid ≡ false) × (last_write q.exec false 1 k q.writes ≡ Some a)
    go true f e = absurd cc
    go false f e = (p, refl, f, e)

count : (h : Handled) (v : Version) (k : Key) (p : Put) (a : Held) → is_blocked h v p.exec.eid ≡ false → last_write p.exec false 1 k p.writes ≡ Some a →
    last_put k (counting_put h v (Some p)) ≡ Some a
count h v k p a b e = ap (λ t. last_put k (then_some (not t) p)) b ∙ e

not_true : (b : Bool) → not b ≡ true → b ≡ false
not_true true e = cc
not_true false e = refl

same_exec_self : (x : Exec) → same_exec x x ≡ true
same_exec_self x = elim (same_exec_tells x x) [ inl p ↦ p.0 | inr p ↦ absurd (p.1 refl) ]

open_one : (h : Handled) (k : Key) (p : Put) (a : Held) → kept_put h p.exec.ver ≡ Some p → before (dropped h) p.exec.ver ≡ true →
    has_commit h p.exec.ver ≡ false → is_blocked h p.exec.ver p.exec.eid ≡ false → last_write p.exec false 1 k p.writes ≡ Some a → open_by h k p.exec ≡ Some a
unfolding open_by
open_one h k p a f b c d e =
    ap (λ t. cond (t && not (has_commit h p.exec.ver)) (last_of_put k p.exec (is_blocked h p.exec.ver) (kept_put h p.exec.ver)) None) b
    ∙ (ap (λ t. cond (not t) (last_of_put k p.exec (is_blocked h p.exec.ver) (kept_put h p.exec.ver)) None) c
    ∙ (ap (last_of_put k p.exec (is_blocked h p.exec.ver)) f
    ∙ (ap (λ t. cond (t && not (is_blocked h p.exec.ver p.exec.eid)) (last_write p.exec false 1 k p.writes) None) (same_exec_self p.exec)
    ∙ (ap (λ t. cond (not t) (last_write p.exec false 1 k p.writes) None) d ∙ e))))

open_some : (h : Handled) (k : Key) (x : Exec) (a : Held) → open_by h k x ≡ Some a → (p : Put) × (kept_put h x.ver ≡ Some p) × (before (dropped h) x.ver ≡ true)
    × (has_commit h x.ver ≡ false) × (is_blocked h x.ver p.exec.eid ≡ false) × (last_write p.exec false 1 k p.writes ≡ Some a) × (x ≡ p.exec)
unfolding open_by
open_some h k x a e = go (before (dropped h) x.ver) (has_commit h x.ver) refl refl e
  where
    by_put : (o : Option Put) → kept_put h x.ver ≡ o → before (dropped h) x.ver ≡ true → has_commit h x.ver ≡ false →
        last_of_put k x (is_blocked h x.ver) o ≡ Some a → (p : Put) × (kept_put h x.ver ≡ Some p) × (before (dropped h) x.ver ≡ true)
        × (has_commit h x.ver ≡ false) × (is_blocked h x.ver p.exec.eid ≡ false) × (last_write p.exec false 1 k p.writes ≡ Some a) × (x ≡ p.exec)
    by_put None f b c e = absurd cc
    by_put (Some p) f b c e = by_tests (same_exec x p.exec) (same_exec_tells x p.exec) (is_blocked h x.ver p.exec.eid) refl e
      where
        by_tests : (s : Bool) → ((s ≡ true) × (x ≡ p.exec)) ⊎ ((s ≡ false) × (x ≢ p.exec)) → (t : Bool) → is_blocked h x.ver p.exec.eid ≡ t →
            cond (s && not t) (last_write p.exec false 1 k p.writes) None ≡ Some a → (q : Put) × (kept_put h x.ver ≡ Some q) × (before (dropped h) x.ver ≡ true)
            × (has_commit h x.ver ≡ false) × (is_blocked h x.ver q.exec.eid ≡ false) × (last_write q.exec false 1 k q.writes ≡ Some a) × (x ≡ q.exec)
        by_tests true (inl q) false g e = (p, f, b, c, g, e, q.1)
        by_tests true (inl q) true g e = absurd cc
        by_tests true (inr q) t g e = absurd (cc (q.0))
        by_tests false q t g e = absurd cc

    go : (s t : Bool) → before (dropped h) x.ver ≡ s → has_commit h x.ver ≡ t → cond (s && not t) (last_of_put k x (is_blocked h x.ver) (kept_put h x.ver)) None
        ≡ Some a → (p : Put) × (kept_put h x.ver ≡ Some p) × (before (dropped h) x.ver ≡ true) × (has_commit h x.ver ≡ false)
        × (is_blocked h x.ver p.exec.eid ≡ false) × (last_write p.exec false 1 k p.writes ≡ Some a) × (x ≡ p.exec)
    go true false b c e = by_put (kept_put h x.ver) refl b c e
    go true true b c e = absurd cc
    go false t b c e = absurd cc

open_test : (h : Handled) (v : Version) → before (dropped h) v ≡ true → has_commit h v ≡ false →
    (before (dropped h) v && not (list_any (λ c. same_version v c.exec.ver) (filter (λ c. before (dropped h) c.exec.ver) (commits h)))) ≡ true
open_test h v b c =
    ap (λ t. t && not (list_any (λ c. same_version v c.exec.ver) (filter (λ c. before (dropped h) c.exec.ver) (commits h)))) b
    ∙ ap not (any_kept (dropped h) v (commits h) b ∙ c)

pub open_values : (h : Handled) (k : Key) → AreValues (open_by h k) (filter_map (λ v. last_put k (counting_put h v (kept_put h v)))
    (filter (λ v. before (dropped h) v && not (list_any (λ c. same_version v c.exec.ver) (filter (λ c. before (dropped h) c.exec.ver) (commits h))))
    (put_versions h)))
open_values h k = record {
  sound = λ a i.
      let f = filter_map_in (last_counting h k) (open_versions h) a i in
      let v = f.0 in
      let g = filter_in (λ v. before (dropped h) v && not
      (list_any (λ c. same_version v c.exec.ver) (filter (λ c. before (dropped h) c.exec.ver) (commits h)))) (put_versions h) v f.1 in
      let b = and_left (before (dropped h) v) _ g.1 in
      let c = sym (any_kept (dropped h) v (commits h) b) ∙ not_true _ (and_right (before (dropped h) v) _ g.1) in
      let p = counted h v k (kept_put h v) a f.2 in
      let e = sym (kept_is h v p.0 p.1).0 in
      subst (λ x. open_by h k x ≡ Some a) (sym (last_write_exec p.0.exec false 1 k p.0.writes a p.3))
      (open_one h k p.0 a (subst (λ u. kept_put h u ≡ Some p.0) e p.1) (subst (λ u. before (dropped h) u ≡ true) e b) (subst (λ u. has_commit h u ≡ false) e c)
      (subst (λ u. is_blocked h u p.0.exec.eid ≡ false) e p.2) p.3);
  complete = λ x a e.
      let s = open_some h k x a e in
      let p = s.0 in (
        in_filter_map (last_counting h k) (open_versions h) x.ver a
            (in_filter (λ v. before (dropped h) v && not (list_any (λ c. same_version v c.exec.ver) (filter (λ c. before (dropped h) c.exec.ver) (commits h))))
            (put_versions h) x.ver (kept_is h x.ver p s.1).1 (open_test h x.ver s.2 s.3))
            (ap (λ o. last_put k (counting_put h x.ver o)) s.1 ∙ count h x.ver k p a s.4 s.5),
        last_write_exec p.exec false 1 k p.writes a s.5 ∙ sym s.6,
      );
}

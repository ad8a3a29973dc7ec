-- The orders of versions and executions as keys of tables.
use Rattle.std.proofs.Common.{◌≡◌, ◌≢◌, ◌⊎◌, inl, inr, ℕ, Bool, true, false, cond, refl, arith, ◌&&◌, ◌||◌, List, [], ◌∷◌, Option, Some, None, sym, subst, ap, ◌∙◌}
use Rattle.std.specs.Prelude.{IsSome, IfSome, option_map, nat_le, filter, slice_get}
use Rattle.std.specs.declared.ops.Bound.TheVariants.{Included, Unbounded}
use Rattle.std.specs.BTreeMap.Range.{IsRangeOf, IsEntryInRange, IsLeBy}
use Rattle.std.specs.Ordering.{is_eq, is_gt}
use Rattle.std.specs.Map.{lookup}
use Rattle.std.specs.BTreeMap.{BTreeMap, get, is_at}
use Rattle.std.proofs.lemmas.Map.Entries.{lookup-filter-keys}
use Rattle.std.proofs.lemmas.Bool.Decides.{nat_tests}
use Rattle.morty_base.proofs.Orders.{same_exec_tells, same_version_tells}
use Rattle.protocol.specs.Words.{Content, Version, Exec, before, same_version, same_exec}
use Rattle.mv_index.specs.Orders.{version_cmp, exec_cmp}
use Rattle.mv_index.specs.AbandonTable.{is_up_to}
use Rattle.mv_index.specs.ContentTable.{HasVersion}

pub version_eq : (a b : Version) → is_eq (version_cmp a b) ≡ same_version b a
unfolding same_version
version_eq a b = grind (arith, nat_tests)

pub exec_eq : (a b : Exec) → is_eq (exec_cmp a b) ≡ same_exec b a
unfolding same_exec
exec_eq a b = grind (arith, nat_tests)

pub option_map_cond : {A B : Type 0} (f : A → B) (b : Bool) (o p : Option A) → option_map f (cond b o p) ≡ cond b (option_map f o) (option_map f p)
option_map_cond f true o p = refl
option_map_cond f false o p = refl

version_found : (p : Version → Bool) (v u : Version) → is_eq (version_cmp v u) ≡ true → p u ≡ p v
version_found p v u e = elim (same_version_tells u v) [ inl s ↦ ap p s.1 | inr s ↦ let z : true ≡ false = sym e ∙ (version_eq v u ∙ s.0) in absurd cc ]

exec_found : (p : Exec → Bool) (x y : Exec) → is_eq (exec_cmp x y) ≡ true → p y ≡ p x
exec_found p x y e = elim (same_exec_tells y x) [ inl s ↦ ap p s.1 | inr s ↦ let z : true ≡ false = sym e ∙ (exec_eq x y ∙ s.0) in absurd cc ]

-- what is left at a version
pub cut_versions : {X : Type 0} (w v : Version) (es kept : List (Version × X)) → kept ≡ filter (λ p. before w p.0) es →
    lookup (is_at (version_cmp v)) kept ≡ cond (before w v) (lookup (is_at (version_cmp v)) es) None
cut_versions w v es kept e = ap (lookup (is_at (version_cmp v))) e
    ∙ lookup-filter-keys (is_at (version_cmp v)) (λ u. before w u) (before w v) (λ u f. version_found (before w) v u f) es

pub cut_execs : {X : Type 0} (w : Version) (x : Exec) (es kept : List (Exec × X)) → kept ≡ filter (λ p. before w p.0.ver) es →
    lookup (is_at (exec_cmp x)) kept ≡ cond (before w x.ver) (lookup (is_at (exec_cmp x)) es) None
cut_execs w x es kept e = ap (lookup (is_at (exec_cmp x))) e
    ∙ lookup-filter-keys (is_at (exec_cmp x)) (λ y. before w y.ver) (before w x.ver) (λ y f. exec_found (λ z. before w z.ver) x y f) es

pub is_up_to_cond : (n : ℕ) (b : Bool) (o : Option ℕ) → is_up_to n (cond b o None) ≡ (b && is_up_to n o)
is_up_to_cond n true o = refl
is_up_to_cond n false o = refl

-- a number that is blocked already blocks those below it
pub blocked_less : (n m : ℕ) (o : Option ℕ) → is_up_to m o ≡ true → nat_le n m ≡ true → is_up_to n o ≡ true
blocked_less n m None e f = cc
blocked_less n m (Some k) e f = grind (arith, nat_tests)

pub blocked_stays : (v : Version) (x : Exec) (n : ℕ) (get : Version → Option ℕ) → is_up_to x.eid (get x.ver) ≡ true →
    is_up_to n (get v) ≡ ((same_version v x.ver && nat_le n x.eid) || is_up_to n (get v))
blocked_stays v x n get e = go (same_version v x.ver) (same_version_tells v x.ver) (nat_le n x.eid) refl
  where
    go : (s : Bool) → ((s ≡ true) × (v ≡ x.ver)) ⊎ ((s ≡ false) × (v ≢ x.ver)) → (t : Bool) → nat_le n x.eid ≡ t →
        is_up_to n (get v) ≡ ((s && t) || is_up_to n (get v))
    go true (inl q) true f = blocked_less n x.eid (get v) (subst (λ u. is_up_to x.eid (get u) ≡ true) (sym q.1) e) f
    go true (inl q) false f = refl
    go true (inr q) t f = absurd (cc (q.0))
    go false q t f = refl

-- a greater number takes the place of what was there
pub blocked_more : (v : Version) (x : Exec) (n : ℕ) (o p : Option ℕ) (get : Version → Option ℕ) → p ≡ cond (same_version v x.ver) (Some x.eid) (get v) →
    is_up_to x.eid (get x.ver) ≡ false → is_up_to n p ≡ ((same_version v x.ver && nat_le n x.eid) || is_up_to n (get v))
blocked_more v x n o p get e f = ap (is_up_to n) e ∙ go (same_version v x.ver) (same_version_tells v x.ver)
  where
    less : (o : Option ℕ) → is_up_to x.eid o ≡ false → (t : Bool) → nat_le n x.eid ≡ t → t ≡ (t || is_up_to n o)
    less None f true e = refl
    less None f false e = refl
    less (Some m) f true e = refl
    less (Some m) f false e = grind (arith, nat_tests)

    go : (s : Bool) → ((s ≡ true) × (v ≡ x.ver)) ⊎ ((s ≡ false) × (v ≢ x.ver)) →
        is_up_to n (cond s (Some x.eid) (get v)) ≡ ((s && nat_le n x.eid) || is_up_to n (get v))
    go true (inl q) = less (get v) (subst (λ u. is_up_to x.eid (get u) ≡ false) (sym q.1) f) (nat_le n x.eid) refl
    go true (inr q) = absurd (cc (q.0))
    go false q = refl

-- ---- the first execution of a version

from_zero : (v : Version) (x : Exec) → same_version v x.ver ≡ true → is_gt (exec_cmp (record { ver = v; eid = 0 }) x) ≡ false
unfolding same_version
from_zero v x e = grind (arith, nat_tests)

none_between : (v : Version) (x y : Exec) → is_gt (exec_cmp (record { ver = v; eid = 0 }) x) ≡ false → is_gt (exec_cmp x y) ≡ false →
    same_version v y.ver ≡ true → same_version v x.ver ≡ true
unfolding same_version
none_between v x y e f g = grind (arith, nat_tests)

some_of : {A : Type 0} (o : Option A) (a : A) → o ≡ Some a → IsSome o
some_of None a e = cc
some_of (Some b) a e = refl

pub no_first : (v : Version) (m : BTreeMap Exec Content) (r : List (Exec × Content)) →
    IsRangeOf exec_cmp (Included (record { ver = v; eid = 0 })) Unbounded m r → r ≡ [] → HasVersion (λ x. get exec_cmp m x) v false
no_first v m r b e = λ x s. b.5 e x (from_zero v x s, tt)

pub one_first : (v : Version) (m : BTreeMap Exec Content) (r t : List (Exec × Content)) (x : Exec) (c : Content) (found : Bool) →
    IsRangeOf exec_cmp (Included (record { ver = v; eid = 0 })) Unbounded m r → r ≡ (x, c) ∷ t → found ≡ same_version v x.ver →
    HasVersion (λ x. get exec_cmp m x) v found
one_first v m r t x c true b e f = (
  x,
  c,
  (subst (λ l.
      IfSome (slice_get l 0) (IsEntryInRange exec_cmp (Included (record { ver = v; eid = 0 })) Unbounded m)) e b.1).1,
  sym f,
)
one_first v m r t x c false b e f = λ y s. by y (get exec_cmp m y) refl s
  where
    here : is_gt (exec_cmp (record { ver = v; eid = 0 }) x) ≡ false
    here = (subst (λ l. IfSome (slice_get l 0) (IsEntryInRange exec_cmp (Included (record { ver = v; eid = 0 })) Unbounded m)) e b.1).0.0

    by : (y : Exec) (o : Option Content) → get exec_cmp m y ≡ o → same_version v y.ver ≡ true → o ≡ None
    by y None g s = refl
    by y (Some d) g s =
        let least = subst (λ l. IfSome (slice_get l 0) (λ p. IsLeBy exec_cmp p.0 y)) e (b.2 y (from_zero v y s, tt) (some_of _ d g)) in
        let same : same_version v x.ver ≡ true = none_between v x y here least s in
        absurd cc

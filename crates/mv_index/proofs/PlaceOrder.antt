-- The order of places, and what lies between two of them.
use Rattle.std.proofs.Common.{◌≡◌, Bool, true, false, refl, arith, ◌&&◌, List, [], ◌∷◌, ◌++◌, Option, Some, None, sym, subst, ap, ◌∙◌, inl, inr}
use Rattle.std.specs.Prelude.{IsSome}
use Rattle.std.specs.Ordering.{is_eq, is_lt, nat_cmp, int_cmp, ordering_then}
use Rattle.std.specs.declared.cmp.Ordering.{Ordering}
use Rattle.std.specs.declared.cmp.Ordering.TheVariants.{Less, Equal, Greater}
use Rattle.std.specs.Bool.{then_some}
use Rattle.std.specs.declared.ops.Bound.TheVariants.{Unbounded, Excluded}
use Rattle.std.specs.BTreeMap.{BTreeMap, get}
use Rattle.std.specs.BTreeMap.Range.{IsRangeOf, IsInRange}
use Rattle.std.proofs.lemmas.Bool.Decides.{nat_tests}
use Rattle.std.proofs.lemmas.Int.{ints}
use Rattle.morty_base.proofs.Orders.{same_key_tells, same_exec_tells}
use Rattle.protocol.specs.Words.{Version, Exec, Key, before, same_version, same_exec, same_key, exec_before}
use Rattle.protocol.specs.declared.Held.{Held}
use Rattle.mv_index.specs.declared.write_index.Place.{Place}
use Rattle.mv_index.specs.Orders.{exec_cmp}
use Rattle.mv_index.specs.WriteIndex.{place_cmp, IsLastBelow}

pub place_eq : (a b : Place) → is_eq (place_cmp a b) ≡ (same_exec b.exec a.exec && same_key b.key a.key)
unfolding same_exec same_key
place_eq a b = grind (arith, nat_tests, ints)

-- the first place of a key at a version; all places of the key below the version stand before it
abbrev pub end_place : Key → Version → Place
end_place k v = record { key = k; exec = record { ver = v; eid = 0 } }

below_end : (k : Key) (v : Version) (x : Exec) → before x.ver v ≡ true → place_cmp (record { key = k; exec = x }) (end_place k v) ≡ Less
unfolding before
below_end k v x e = grind (arith, nat_tests, ints)

ver_below : (k : Key) (v : Version) (x : Exec) → place_cmp (record { key = k; exec = x }) (end_place k v) ≡ Less → before x.ver v ≡ true
unfolding before
ver_below k v x b = grind (arith, nat_tests, ints)

equal_keys : (k l : Key) → ordering_then (nat_cmp l.table k.table) (int_cmp l.index k.index) ≡ Equal → same_key k l ≡ true
unfolding same_key
equal_keys k l e = grind (arith, nat_tests, ints)

-- what stands before that end and is of another key stands before each place of the key
other_key : (k : Key) (v : Version) (p : Place) (x : Exec) → place_cmp p (end_place k v) ≡ Less → same_key k p.key ≡ false →
    is_lt (place_cmp p (record { key = k; exec = x })) ≡ true
other_key k v p x b e = go (ordering_then (nat_cmp p.key.table k.table) (int_cmp p.key.index k.index)) refl b
  where
    go : (o : Ordering) → ordering_then (nat_cmp p.key.table k.table) (int_cmp p.key.index k.index) ≡ o →
        ordering_then o (exec_cmp p.exec (record { ver = v; eid = 0 })) ≡ Less → is_lt (ordering_then o (exec_cmp p.exec x)) ≡ true
    go Less f b = refl
    go Equal f b = let z = equal_keys k p.key f in absurd (cc (z, e))
    go Greater f b = absurd cc

not_later : (k : Key) (x y : Exec) → is_lt (place_cmp (record { key = k; exec = x }) (record { key = k; exec = y })) ≡ false → exec_before x y ≡ false
unfolding exec_before before same_version
not_later k x y e = grind (arith, nat_tests, ints)

is_same_key : (a b : Key) → same_key a b ≡ true → b ≡ a
is_same_key a b e = elim (same_key_tells a b) [ inl p ↦ sym p.1 | inr p ↦ absurd cc ]

is_below : (k : Key) (v : Version) (x : Exec) → before x.ver v ≡ true → IsInRange place_cmp Unbounded (Excluded (end_place k v)) (record { key = k; exec = x })
is_below k v x e = (tt, below_end k v x e)

pub none_below : (k : Key) (v : Version) (m : BTreeMap Place Held) (r : List (Place × Held)) →
    IsRangeOf place_cmp Unbounded (Excluded (end_place k v)) m r → r ≡ [] → IsLastBelow v (λ x. get place_cmp m (record { key = k; exec = x })) None
none_below k v m r b e = λ x f. b.5 e (record { key = k; exec = x }) (is_below k v x f)

is_some_of : (o : Option Held) (a : Held) → o ≡ Some a → IsSome o
is_some_of None a e = cc
is_some_of (Some b) a e = refl

never_some : (o : Option Held) → (IsSome o → ⊥) → o ≡ None
never_some None f = refl
never_some (Some a) f = absurd (f refl)

-- the last entry before that end is the last below the version if it is of the key; else there is none
pub last_below : (k : Key) (v : Version) (m : BTreeMap Place Held) (r t : List (Place × Held)) (p : Place) (a : Held) →
    IsRangeOf place_cmp Unbounded (Excluded (end_place k v)) m r → r ≡ t ++ (p, a) ∷ [] →
    IsLastBelow v (λ x. get place_cmp m (record { key = k; exec = x })) (then_some (same_key k p.key) a)
last_below k v m r t p a b e = go (same_key k p.key) refl
  where
    last : (x : Exec) → before x.ver v ≡ true → IsSome (get place_cmp m (record { key = k; exec = x })) →
        is_lt (place_cmp p (record { key = k; exec = x })) ≡ false
    last x f some = b.4 (p, a) t e (record { key = k; exec = x }) (is_below k v x f) some

    go : (s : Bool) → same_key k p.key ≡ s → IsLastBelow v (λ x. get place_cmp m (record { key = k; exec = x })) (then_some s a)
    go false f = λ x g. never_some (get place_cmp m (record { key = k; exec = x })) (λ some. cc (last x g some, other_key k v p x (b.3 (p, a) t e).0.1 f))
    go true f =
        let i = b.3 (p, a) t e in
        let here : p ≡ record { key = k; exec = p.exec } = ap (λ (l : Key). let q : Place = record { key = l; exec = p.exec } in q) (is_same_key k p.key f) in (
          p.exec,
          ver_below k v p.exec (subst (λ (q : Place). place_cmp q (end_place k v) ≡ Less) here i.0.1),
          subst (λ (q : Place). get place_cmp m q ≡ Some a) here i.1,
          λ y c g h. not_later k p.exec y (subst (λ (q : Place). is_lt (place_cmp q (record { key = k; exec = y })) ≡ false) here
              (last y g (is_some_of _ c h))),
        )

-- what a test of executions is at a place that is found
pub test_found : (p : Exec → Bool) (k : Key) (x : Exec) (q : Place) → is_eq (place_cmp (record { key = k; exec = x }) q) ≡ true → p q.exec ≡ p x
test_found p k x q e = elim (same_exec_tells q.exec x) [ inl s ↦ ap p s.1 | inr s ↦ absurd (differ s.0) ]
  where
    differ : same_exec q.exec x ≡ false → ⊥
    differ f = let g : (same_exec q.exec x && same_key q.key k) ≡ true = sym (place_eq (record { key = k; exec = x }) q) ∙ e in
        let z : (false && same_key q.key k) ≡ true = rw f at g in cc

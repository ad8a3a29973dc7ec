-- What a range of the map gives to walk over.
use Rattle.std.proofs.Common.{◌≡◌, inl, inr, Bool, true, false, cond, List, [], ◌∷◌, Some, refl, ap, sym, subst, ◌∙◌, ◌&&◌, arith}
use Rattle.std.specs.Prelude.{filter}
use Rattle.std.specs.Ordering.{is_lt, is_le, is_eq}
use Rattle.std.specs.declared.cmp.Ordering.{Ordering}
use Rattle.std.specs.declared.cmp.Ordering.TheVariants.{Less}
use Rattle.std.specs.declared.ops.Bound.TheVariants.{Included, Unbounded}
use Rattle.std.specs.List.{AllByRecursion}
use Rattle.std.specs.List.Sorted.{IsStrictlySortedBy}
use Rattle.std.specs.Map.{lookup, keys_of}
use Rattle.std.specs.BTreeMap.{BTreeMap, is_at, IsOrdered}
use Rattle.std.specs.BTreeMap.Range.{IsRangeOf, IsEntryInRange, range_contains, entries_between}
use Rattle.std.proofs.lemmas.Bool.Decides.{nat_tests}
use Rattle.std.proofs.lemmas.Int.{ints}
use Rattle.std.proofs.lemmas.List.Elements.{recursion_from_All}
use Rattle.std.proofs.lemmas.Map.Keys.{sorted_head, sorted_tail}
use Rattle.protocol.specs.Words.{Version, Exec, Key, before, same_key, same_exec}
use Rattle.morty_base.proofs.Orders.{same_key_tells, same_exec_tells}
use Rattle.protocol.specs.Lists.{IsIn, IsRisingBy}
use Rattle.protocol.proofs.TestLemmas.{and_left, and_right}
use Rattle.mv_index.specs.declared.write_index.Place.{Place}
use Rattle.mv_index.specs.WriteIndex.{place_cmp}
use Rattle.mv_index.proofs.PlaceOrder.{place_eq, end_place}
use Rattle.mv_index.proofs.Values.{filter_in, in_filter}
use Rattle.mv_index.proofs.ReadsLeft.{Entry, IsLeft}

all_in : {A : Type 0} (P : A → Type 0) (xs : List A) (a : A) → AllByRecursion P xs → IsIn a xs → P a
all_in P [] a s i = absurd i
all_in P (x ∷ xs) a s (inl q) = subst P (sym q) s.0
all_in P (x ∷ xs) a s (inr i) = all_in P xs a s.1 i

lookup_in : {K X : Type 0} (test : K → Bool) (es : List (K × X)) (v : X) → lookup test es ≡ Some v → (e : K × X) × IsIn e es × (test e.0 ≡ true) × (e.1 ≡ v)
lookup_in test [] v g = absurd cc
lookup_in {K} {X} test (e ∷ es) v g = go (test e.0) refl g (lookup_in test es v)
  where
    go : (t : Bool) → test e.0 ≡ t → cond t (Some e.1) (lookup test es) ≡ Some v → (lookup test es ≡ Some v →
        (f : K × X) × IsIn f es × (test f.0 ≡ true) × (f.1 ≡ v)) → (f : K × X) × IsIn f (e ∷ es) × (test f.0 ≡ true) × (f.1 ≡ v)
    go true h g more = let q : e.1 ≡ v = cc in (e, inl refl, h, q)
    go false h g more = let k = more g in (k.0, inr k.1, k.2, k.3)

is_lt_less : (o : Ordering) → o ≡ Less → is_lt o ≡ true
is_lt_less o e = ap is_lt e

less_in : (p : Place) (es : List Entry) (f : Entry) → AllByRecursion (λ q. place_cmp p q ≡ Less) (keys_of es) → IsIn f es → is_lt (place_cmp p f.0) ≡ true
less_in p [] f s i = absurd i
less_in p (e ∷ es) f s (inl q) = subst (λ (z : Entry). is_lt (place_cmp p z.0) ≡ true) (sym q) (is_lt_less (place_cmp p e.0) s.0)
less_in p (e ∷ es) f s (inr i) = less_in p es f s.1 i

rises_from : (es : List Entry) → IsStrictlySortedBy place_cmp (keys_of es) → IsRisingBy (λ (e f : Entry). is_lt (place_cmp e.0 f.0)) es
rises_from [] s = tt
rises_from (e ∷ es) s = (λ f i. less_in e.0 es f (sorted_head place_cmp e.0 (keys_of es) s) i, rises_from es (sorted_tail place_cmp e.0 (keys_of es) s))

rises_filter : (r : Entry → Entry → Bool) (p : Entry → Bool) (es : List Entry) → IsRisingBy r es → IsRisingBy r (filter p es)
rises_filter r p [] s = tt
rises_filter r p (e ∷ es) s = go (p e) (rises_filter r p es s.1)
  where
    go : (t : Bool) → IsRisingBy r (filter p es) → IsRisingBy r (cond t (e ∷ filter p es) (filter p es))
    go true more = (λ f i. s.0 f (filter_in p es f i).0, more)
    go false more = more

from_start : (k : Key) (v : Version) (x : Exec) → before v x.ver ≡ true → is_le (place_cmp (end_place k v) (record { key = k; exec = x })) ≡ true
unfolding before
from_start k v x e = grind (arith, nat_tests, ints)

same_place : (p q : Place) → is_eq (place_cmp p q) ≡ true → q ≡ p
same_place p q e =
    let b : (same_exec q.exec p.exec && same_key q.key p.key) ≡ true = sym (place_eq p q) ∙ e in
    let b0 : same_exec q.exec p.exec ≡ true = and_left (same_exec q.exec p.exec) (same_key q.key p.key) b in
    let b1 : same_key q.key p.key ≡ true = and_right (same_exec q.exec p.exec) (same_key q.key p.key) b in
    let x : q.exec ≡ p.exec = elim (same_exec_tells q.exec p.exec) [ inl s ↦ s.1 | inr s ↦ absurd (cc (s.0, b0)) ] in
    let k : q.key ≡ p.key = elim (same_key_tells q.key p.key) [ inl s ↦ s.1 | inr s ↦ absurd (cc (s.0, b1)) ] in
    ap (λ (l : Key). let z : Place = record { key = l; exec = q.exec } in z) k ∙ ap (λ y. let z : Place = record { key = p.key; exec = y } in z) x

pub left_all : (m : BTreeMap Place Version) (k : Key) (v : Version) (r : List Entry) → IsOrdered place_cmp m →
    r ≡ entries_between place_cmp (Included (end_place k v)) Unbounded m.entries → IsRangeOf place_cmp (Included (end_place k v)) Unbounded m r →
    IsLeft m k v r
left_all m k v r o b s = record {
  late = λ x u g c d. there x u c (lookup_in (is_at (place_cmp (record { key = k; exec = x }))) m.entries u g);
  found = λ e i. (all_in (IsEntryInRange place_cmp (Included (end_place k v)) Unbounded m) r e each i).1;
  from = λ e i. (all_in (IsEntryInRange place_cmp (Included (end_place k v)) Unbounded m) r e each i).0.0;
  rises = subst (λ l. IsRisingBy (λ (e f : Entry). is_lt (place_cmp e.0 f.0)) l) (sym b) (rises_filter (λ (e f : Entry). is_lt (place_cmp e.0 f.0))
      (λ (e : Entry). range_contains place_cmp (Included (end_place k v)) Unbounded e.0) m.entries (rises_from m.entries o));
}
  where
    each : AllByRecursion (IsEntryInRange place_cmp (Included (end_place k v)) Unbounded m) r
    each = recursion_from_All (IsEntryInRange place_cmp (Included (end_place k v)) Unbounded m) r s.0

    there : (x : Exec) (u : Version) → before v x.ver ≡ true → (e : Entry) × IsIn e m.entries
        × (is_at (place_cmp (record { key = k; exec = x })) e.0 ≡ true) × (e.1 ≡ u) →
        (e : Entry) × IsIn e r × (e.0 ≡ record { key = k; exec = x }) × (e.1 ≡ u)
    there x u c (e, i, t, q) =
        let here = same_place (record { key = k; exec = x }) e.0 t in
        let inside : range_contains place_cmp (Included (end_place k v)) Unbounded e.0 ≡ true = subst (λ z. (is_le (place_cmp (end_place k v) z) && true)
        ≡ true) (sym here) (ap (λ t. t && true) (from_start k v x c)) in (
          e,
          subst (λ l. IsIn e l) (sym b) (in_filter (λ (e : Entry). range_contains place_cmp (Included
              (end_place k v)) Unbounded e.0) m.entries e i inside),
          here,
          q,
        )

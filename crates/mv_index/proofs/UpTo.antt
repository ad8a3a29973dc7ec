-- The contents of a table at or below a version, in rising order.
use Rattle.std.proofs.Common.{◌≡◌, inl, inr, Bool, true, false, List, [], ◌∷◌, ◌++◌, Some, refl, ap, sym, subst, ◌∙◌, arith}
use Rattle.std.specs.Prelude.{not}
use Rattle.std.specs.List.{flat_map}
use Rattle.std.specs.Ordering.{is_lt}
use Rattle.std.specs.declared.cmp.Ordering.TheVariants.{Less}
use Rattle.std.specs.List.Sorted.{IsStrictlySortedBy}
use Rattle.std.specs.Map.{keys_of}
use Rattle.std.specs.BTreeMap.{BTreeMap, get, IsOrdered}
use Rattle.std.proofs.lemmas.Bool.Decides.{nat_tests}
use Rattle.std.proofs.lemmas.Map.Keys.{sorted_head, sorted_tail}
use Rattle.protocol.specs.Words.{Version, Exec, Content, Kept, before, same_version, exec_before}
use Rattle.protocol.specs.Lists.{IsIn, IsRisingBy, one_when}
use Rattle.protocol.proofs.ListsLemmas.{IsIn-cases, IsIn-left, IsIn-right, IsIn-one_when}
use Rattle.mv_index.specs.Orders.{exec_cmp}
use Rattle.mv_index.specs.ContentTable.{stands_first, IsListUpTo}
use Rattle.mv_index.proofs.Conflicting.{entry_found, lookup_in, less_than}

abbrev pub Entry : Type 0
Entry = Exec × Content

abbrev pub kept_of : Entry → Kept
kept_of e = record { exec = e.0; content = e.1 }

-- an entry at or below w
abbrev pub entry_upto : Version → Entry → List Kept
entry_upto w e = one_when (not (before w e.0.ver)) (kept_of e)

-- those among these entries
abbrev pub entries_upto : Version → List Entry → List Kept
entries_upto w es = flat_map (entry_upto w) es

less_tells : (x y : Exec) → is_lt (exec_cmp x y) ≡ true → exec_before x y ≡ true
unfolding exec_before before same_version
less_tells x y e = grind (arith, nat_tests)

less_before : (x y : Exec) → exec_cmp x y ≡ Less → exec_before x y ≡ true
less_before x y e = less_tells x y (ap is_lt e)

turned : (t : Bool) → not t ≡ true → t ≡ false
turned true e = cc
turned false e = refl

upto_in : (w : Version) (es : List Entry) (c : Kept) → IsIn c (entries_upto w es) → (e : Entry) × IsIn e es × (c ≡ kept_of e) × (before w e.0.ver ≡ false)
upto_in w [] c i = absurd i
upto_in w (e ∷ es) c i = elim (IsIn-cases c (entry_upto w e) (entries_upto w es) i) [
  | inl j ↦ let k = IsIn-one_when (not (before w e.0.ver)) (kept_of e) c j in (e, inl refl, k.1, turned (before w e.0.ver) k.0)
  | inr j ↦ let k = upto_in w es c j in (k.0, inr k.1, k.2, k.3)
]

in_upto : (w : Version) (es : List Entry) (e : Entry) → IsIn e es → before w e.0.ver ≡ false → IsIn (kept_of e) (entries_upto w es)
in_upto w [] e i b = absurd i
in_upto w (f ∷ fs) e (inl q) b = IsIn-left (kept_of e) (entry_upto w f) (entries_upto w fs)
    (subst (λ (z : Entry). IsIn (kept_of e) (entry_upto w z)) q (subst (λ t. IsIn (kept_of e) (one_when (not t) (kept_of e))) (sym b) (inl refl)))
in_upto w (f ∷ fs) e (inr j) b = IsIn-right (kept_of e) (entry_upto w f) (entries_upto w fs) (in_upto w fs e j b)

upto_rises : (w : Version) (es : List Entry) → IsStrictlySortedBy exec_cmp (keys_of es) → IsRisingBy stands_first (entries_upto w es)
upto_rises w [] s = tt
upto_rises w (e ∷ es) s = go (not (before w e.0.ver)) (upto_rises w es (sorted_tail exec_cmp e.0 (keys_of es) s))
  where
    first : (c : Kept) → IsIn c (entries_upto w es) → exec_before e.0 c.exec ≡ true
    first c i =
        let k = upto_in w es c i in
        subst (λ (z : Kept). exec_before e.0 z.exec ≡ true) (sym k.2) (less_before e.0 k.0.0
        (less_than e.0 es k.0 (sorted_head exec_cmp e.0 (keys_of es) s) k.1))

    go : (t : Bool) → IsRisingBy stands_first (entries_upto w es) → IsRisingBy stands_first (one_when t (kept_of e) ++ entries_upto w es)
    go true more = (first, more)
    go false more = more

-- those of a map are all its values there
pub upto_list : (m : BTreeMap Exec Content) (w : Version) (l : List Kept) → IsOrdered exec_cmp m → l ≡ entries_upto w m.entries →
    IsListUpTo (λ x. get exec_cmp m x) w l
upto_list m w l o e = subst (IsListUpTo (λ x. get exec_cmp m x) w) (sym e) (record {
  rises = upto_rises w m.entries o;
  sound = λ c i.
      let k = upto_in w m.entries c i in (
        subst (λ (z : Kept). get exec_cmp m z.exec ≡ Some z.content) (sym k.2) (entry_found m.entries k.0 o k.1),
        subst (λ (z : Kept). before w z.exec.ver ≡ false) (sym k.2) k.3,
      );
  complete = λ c g b.
      let (f, i, p, q) = lookup_in c.exec m.entries c.content g in
      let there : kept_of f ≡ c = ap (λ x. let z : Kept = record { exec = x; content = f.1 } in z) (sym p)
      ∙ ap (λ d. let z : Kept = record { exec = c.exec; content = d } in z) q in
      subst (λ (z : Kept). IsIn z (entries_upto w m.entries)) there (in_upto w m.entries f i (subst (λ x. before w x.ver ≡ false) p b));
})

-- A counted list of exact items is exact.
use Rattle.std.proofs.Common.{◌≡◌, ℕ, zero, suc, ◌<◌, ◌≤◌, true, List, [], ◌∷◌, ◌++◌, length, take, Option, Some, None, Ok, Err, refl, sym, ap, subst, ◌∙◌, append_assoc, arith, inl, inr}
use Rattle.std.specs.Prelude.{nat_le}
use Rattle.std.specs.List.{AllByRecursion, flat_map}
use Rattle.std.proofs.lemmas.Bool.Decides.{nat_tests}
use Rattle.std.proofs.lemmas.List.Concat.{flat_map-cons}
use Rattle.std.proofs.lemmas.List.Elements.{All-from_recursion, recursion_from_All}
use Rattle.wire.specs.declared.fault.FrameFault.TheVariants as faults
use Rattle.wire.specs.Field.{◌>>=◌, Field, checked, items_at, AllInTurn, counted}
use Rattle.wire.proofs.Bytes.{IsBytes, IsBytes-rest, bind_ok, bind_err, ok_is, cut}
use Rattle.wire.proofs.Exact.{IsExact}
use Rattle.wire.proofs.Making.{checked_exact}

-- each item's field is exact, and its frame and range do not look at the item before
pub record IsItem {A : Type 0} (item : Option A → Field A) : Type 0 where
  pub exact : (before : Option A) → IsExact (item before)
  pub same : (before : Option A) (x : A) → (item before).frame x ≡ (item None).frame x
  pub in_range : (before other : Option A) (x : A) → (item before).InRange x → (item other).InRange x

record ReadsItems {A : Type 0} (item : Option A → Field A) (before : Option A) (n : ℕ) (bytes : List ℕ) (x : List A × List ℕ) : Type 0 where
  pub parts : bytes ≡ flat_map (item None).frame x.0 ++ x.1
  pub count : length x.0 ≡ n
  pub admits : AllInTurn (λ b. (item b).Admits) before x.0
  pub in_range : AllByRecursion (item None).InRange x.0

items_read : {A : Type 0} (item : Option A → Field A) → IsItem item → (before : Option A) (n : ℕ) (bytes : List ℕ) (x : List A × List ℕ)
    → IsBytes bytes → items_at (λ b. (item b).judged) before n bytes ≡ Ok x → ReadsItems item before n bytes x
items_read item h before zero bytes x fits e =
    subst (ReadsItems item before 0 bytes) (ok_is ([], bytes) x e) (record { parts = refl; count = refl; admits = tt; in_range = tt })
items_read {A} item h before (suc n) bytes x fits e =
    let one = item before in
    let f = bind_ok (one.judged bytes) (λ y. items_at (λ b. (item b).judged) (Some y.0) n y.1 >>= λ ys. Ok (y.0 ∷ ys.0, ys.1)) x e in
    let g = bind_ok (items_at (λ b. (item b).judged) (Some f.0.0) n f.0.1) (λ ys. Ok (f.0.0 ∷ ys.0, ys.1)) x f.2 in
    let exact = h.exact before in
    let first = exact.reads bytes f.0 fits f.1 in
    let others = items_read item h (Some f.0.0) n f.0.1 g.0 (IsBytes-rest (one.frame f.0.0) f.0.1 (subst IsBytes first.parts fits)) g.1 in
    let frame = (item None).frame in
    let made : List A × List ℕ = (f.0.0 ∷ g.0.0, g.0.1) in
    let parts : bytes ≡ flat_map frame (f.0.0 ∷ g.0.0) ++ g.0.1 =
    first.parts ∙ ap (λ (t : List ℕ). t ++ f.0.1) (h.same before f.0.0) ∙ ap (λ (t : List ℕ). frame f.0.0 ++ t) others.parts
    ∙ sym (append_assoc (frame f.0.0) (flat_map frame g.0.0) g.0.1) ∙ ap (λ (t : List ℕ). t ++ g.0.1) (sym (flat_map-cons frame f.0.0 g.0.0)) in
    let read : ReadsItems item before (suc n) bytes made = record {
      parts = parts;
      count = ap (λ (k : ℕ). suc k) others.count;
      admits = (first.admits, others.admits);
      in_range = (h.in_range before None f.0.0 first.in_range, others.in_range);
    } in
    subst (ReadsItems item before (suc n) bytes) (ok_is made x g.2) read

items_again : {A : Type 0} (item : Option A → Field A) → IsItem item → (before : Option A) (xs : List A) (rest : List ℕ)
    → AllInTurn (λ b. (item b).Admits) before xs
    → AllByRecursion (item None).InRange xs → items_at (λ b. (item b).judged) before (length xs) (flat_map (item None).frame xs ++ rest) ≡ Ok (xs, rest)
items_again item h before [] rest may fits = refl
items_again item h before (x ∷ xs) rest may fits =
    let one = item before in
    let frame = (item None).frame in
    let exact = h.exact before in
    let regrouped : flat_map frame (x ∷ xs) ++ rest ≡ one.frame x ++ (flat_map frame xs ++ rest) =
    ap (λ (t : List ℕ). t ++ rest) (flat_map-cons frame x xs) ∙ append_assoc (frame x) (flat_map frame xs) rest
    ∙ ap (λ (t : List ℕ). t ++ (flat_map frame xs ++ rest)) (sym (h.same before x)) in
    ap (items_at (λ b. (item b).judged) before (suc (length xs))) regrouped
    ∙ rw (exact.again x (flat_map frame xs ++ rest) may.0 (h.in_range None before x fits.0), items_again item h (Some x) xs rest may.1 fits.1) refl

items_short : {A : Type 0} (item : Option A → Field A) → IsItem item → (before : Option A) (xs : List A) (n : ℕ) → AllInTurn (λ b. (item b).Admits) before xs
    → AllByRecursion (item None).InRange xs → n < length (flat_map (item None).frame xs)
    → items_at (λ b. (item b).judged) before (length xs) (take n (flat_map (item None).frame xs)) ≡ Err faults.Short
items_short item h before [] n may fits lt = absurd (omega arith)
items_short item h before (x ∷ xs) n may fits lt =
    let one = item before in
    let frame = (item None).frame in
    let exact = h.exact before in
    let in_range = h.in_range None before x fits.0 in
    let read = items_at (λ b. (item b).judged) before (suc (length xs)) in
    let regrouped : flat_map frame (x ∷ xs) ≡ one.frame x ++ flat_map frame xs =
    flat_map-cons frame x xs ∙ ap (λ (t : List ℕ). t ++ flat_map frame xs) (sym (h.same before x)) in
    let below : n < length (one.frame x ++ flat_map frame xs) = subst (λ (t : List ℕ). n < length t) regrouped lt in
    ap (λ (t : List ℕ). read (take n t)) regrouped
    ∙ elim (cut (one.frame x) (flat_map frame xs) n below) [
      | inl c ↦ ap read c.front ∙ bind_err _ _ faults.Short (exact.short x n may.0 in_range c.within)
      | inr (k, c) ↦ ap read c.front
          ∙ rw (exact.again x (take k (flat_map frame xs)) may.0 in_range, items_short item h (Some x) xs k may.1 fits.1 c.within) refl
    ]

le_test : (a b : ℕ) → nat_le a b ≡ true → a ≤ b
le_test a b e = grind (arith, nat_tests)

le_tested : (a b : ℕ) → a ≤ b → nat_le a b ≡ true
le_tested a b h = grind (arith, nat_tests)

pub counted_exact : {A : Type 0} {count : Field ℕ} (most : ℕ) (item : Option A → Field A)
    → IsExact count → ((n : ℕ) → n ≤ most → count.Admits n × count.InRange n) → IsItem item → IsExact (counted count most item)
counted_exact {count = count} most item p counts h =
    let limited = checked faults.Long (λ n. nat_le n most) count in
    let exact = checked_exact faults.Long (λ n. nat_le n most) p in
    let frame = (item None).frame in
    let all = counted count most item in
    record {
      reads = λ bytes x fits e.
          let f = bind_ok (limited.judged bytes) (λ n. items_at (λ b. (item b).judged) None n.0 n.1) x e in
          let first = exact.reads bytes f.0 fits f.1 in
          let others = items_read item h None f.0.0 f.0.1 x (IsBytes-rest (count.frame f.0.0) f.0.1 (subst IsBytes first.parts fits)) f.2 in
          record {
            parts = rw others.count (first.parts ∙ ap (λ (t : List ℕ). count.frame f.0.0 ++ t) others.parts
                ∙ sym (append_assoc (count.frame f.0.0) (flat_map frame x.0) x.1));
            admits = (rw others.count (le_test _ _ first.admits.0), others.admits);
            in_range = All-from_recursion (item None).InRange x.0 others.in_range;
          };
      again = λ xs rest may fits.
          let fine = counts (length xs) may.0 in
          ap all.judged (append_assoc (count.frame (length xs)) (flat_map frame xs) rest)
          ∙ rw (
            p.again (length xs) (flat_map frame xs ++ rest) fine.0 fine.1,
            le_tested (length xs) most may.0,
            items_again item h None xs rest may.1 (recursion_from_All (item None).InRange xs fits),
          ) refl;
      short = λ xs n may fits lt.
          let fine = counts (length xs) may.0 in
          let tested = le_tested (length xs) most may.0 in
          elim (cut (count.frame (length xs)) (flat_map frame xs) n lt) [
            | inl c ↦ ap all.judged c.front ∙ bind_err _ _ faults.Short (exact.short (length xs) n (tested, fine.0) fine.1 c.within)
            | inr (k, c) ↦ ap all.judged c.front
                ∙ rw (
                  p.again (length xs) (take k (flat_map frame xs)) fine.0 fine.1,
                  tested,
                  items_short item h None xs k may.1 (recursion_from_All (item None).InRange xs fits) c.within,
                ) refl
          ];
    }

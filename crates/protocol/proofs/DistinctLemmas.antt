-- Lists without repeats, and one more element at their end.
use Rattle.std.proofs.Common.{◌≡◌, ℕ, ◌⊎◌, ◌≢◌, inl, inr, sym, true, false, Bool, List, [], ◌∷◌, ◌++◌}
use Rattle.std.specs.Prelude.{map, ◌||◌, ◌==◌}
use Rattle.std.specs.List.{list_any}
use Rattle.std.proofs.lemmas.Bool.Decides.{eqb_tells}
use Rattle.std.proofs.lemmas.List.{map-append}
use Rattle.protocol.specs.Lists.{IsIn}
use Rattle.protocol.specs.Quorums.{HasNoRepeats}
use Rattle.protocol.proofs.ListsLemmas.{IsIn-cases}

-- one that is not among the others
pub distinct_more : {A : Type 0} (xs : List A) (x : A) → HasNoRepeats xs → (IsIn x xs → ⊥) → HasNoRepeats (xs ++ x ∷ [])
distinct_more [] x d n = (λ i. i, tt)
distinct_more (y ∷ xs) x d n = (λ i. elim (IsIn-cases y xs (x ∷ []) i) [ inl j ↦ d.0 j | inr j ↦ elim j [ inl e ↦ n (inl (sym e)) | inr z ↦ z ] ], distinct_more xs x d.1 (λ i. n (inr i)))

-- a number that the test does not find is not among those of the elements
pub absent : {A : Type 0} (f : A → ℕ) (j : ℕ) (xs : List A) → list_any (λ a. f a == j) xs ≡ false → IsIn j (map f xs) → ⊥
absent f j [] e i = i
absent f j (x ∷ xs) e i = go (f x == j) (eqb_tells (f x) j) e i (λ g h. absent f j xs g h)
  where
    go : (t : Bool) → ((t ≡ true) × (f x ≡ j)) ⊎ ((t ≡ false) × (f x ≢ j)) → (t || list_any (λ a. f a == j) xs) ≡ false → (j ≡ f x) ⊎ IsIn j (map f xs) → (list_any (λ a. f a == j) xs ≡ false → IsIn j (map f xs) → ⊥) → ⊥
    go true p e i ih = cc
    go false (inl p) e i ih = cc
    go false (inr p) e (inl q) ih = p.1 (sym q)
    go false (inr p) e (inr i) ih = ih e i

-- one whose number the test does not find
pub distinct_map_more : {A : Type 0} (f : A → ℕ) (xs : List A) (x : A) → HasNoRepeats (map f xs) → list_any (λ a. f a == f x) xs ≡ false → HasNoRepeats (map f (xs ++ x ∷ []))
distinct_map_more f xs x d e = rw (map-append f xs (x ∷ [])) (distinct_more (map f xs) (f x) d (absent f (f x) xs e))

-- How many elements a list can have, by those of another list.
use Rattle.std.proofs.Common.{◌≡◌, ℕ, ◌*◌, ◌≤◌, inl, inr, refl, ap, sym, ◌∙◌, subst, false, Bool, List, [], ◌∷◌, length, arith, length-append}
use Rattle.std.specs.Prelude.{suc, map, flat_map}
use Rattle.protocol.specs.Lists.{IsIn, IsRisingBy}
use Rattle.protocol.specs.Quorums.{HasNoRepeats}
use Rattle.protocol.proofs.ListsLemmas.{IsIn-map}
use Rattle.protocol.proofs.TestLemmas.{true_false}

-- the list without the element at this place
abbrev removed : {A : Type 0} (a : A) (ys : List A) → IsIn a ys → List A
removed a [] i = []
removed a (y ∷ ys) (inl e) = ys
removed a (y ∷ ys) (inr i) = y ∷ removed a ys i

length_removed : {A : Type 0} (a : A) (ys : List A) (i : IsIn a ys) → length ys ≡ suc (length (removed a ys i))
length_removed a [] i = absurd i
length_removed a (y ∷ ys) (inl e) = refl
length_removed a (y ∷ ys) (inr i) = ap suc (length_removed a ys i)

others_stay : {A : Type 0} (a b : A) (ys : List A) (i : IsIn a ys) → (b ≡ a → ⊥) → IsIn b ys → IsIn b (removed a ys i)
others_stay a b [] i n j = absurd i
others_stay a b (y ∷ ys) (inl e) n (inl z) = absurd (n (z ∙ sym e))
others_stay a b (y ∷ ys) (inl e) n (inr j) = j
others_stay a b (y ∷ ys) (inr i) n (inl z) = inl z
others_stay a b (y ∷ ys) (inr i) n (inr j) = inr (others_stay a b ys i n j)

-- distinct elements of a list are not more than it has
pub distinct_within : {A : Type 0} (xs ys : List A) → HasNoRepeats xs → ((a : A) → IsIn a xs → IsIn a ys) → length xs ≤ length ys
distinct_within [] ys d f = omega arith
distinct_within (x ∷ xs) ys d f =
    let i = f x (inl refl) in
    let l = distinct_within xs (removed x ys i) d.1 (λ a j. others_stay x a ys i (λ z. d.0 (subst (λ b. IsIn b xs) z j)) (f a (inr j))) in
    let n = length_removed x ys i in
    omega (arith, l, n)

-- a list in rising order by a name has each name once
pub rising_distinct : {A B : Type 0} (name : A → B) (earlier : B → B → Bool) → ((b : B) → earlier b b ≡ false) → (xs : List A) →
    IsRisingBy (λ a c. earlier (name a) (name c)) xs → HasNoRepeats (map name xs)
rising_distinct name earlier itself [] r = tt
rising_distinct name earlier itself (x ∷ xs) r = (
  λ i. let k = IsIn-map name (name x) xs i in true_false (sym (r.0 k.0 k.1) ∙ ap (λ b. earlier (name x) b) (sym k.2) ∙ itself (name x)),
  rising_distinct name earlier itself xs r.1,
)

-- lists of at most n elements each
pub length_joined : {A B : Type 0} (f : A → List B) (n : ℕ) (xs : List A) → ((a : A) → IsIn a xs → length (f a) ≤ n) → length (flat_map f xs) ≤ n * length xs
length_joined f n [] few = omega arith
length_joined f n (x ∷ xs) few =
    let one = few x (inl refl) in
    let l = length_joined f n xs (λ a i. few a (inr i)) in
    let e = length-append (f x) (flat_map f xs) in
    omega (arith, one, l, e)

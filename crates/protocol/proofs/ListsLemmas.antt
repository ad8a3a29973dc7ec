-- What is in a list that is joined, mapped or filtered, and a function with another value at one place.
use Rattle.std.specs.List.{list_all}
use Rattle.std.proofs.Common.{ap, ◌∙◌, subst, ◌≡◌, ◌<◌, ◌≤◌, ℕ, ◌⊎◌, ◌≢◌, inl, inr, refl, true, false, Bool, cond, List, [], ◌∷◌, ◌++◌, arith}
use Rattle.std.specs.Prelude.{zero, suc, flat_map, map, ◌==◌}
use Rattle.std.proofs.lemmas.Bool.Decides.{nat_tests, eqb_tells}
use Rattle.protocol.specs.Lists.{IsIn, one_when, upto}
use Rattle.protocol.specs.World.Events.{at}
use Rattle.protocol.proofs.TestLemmas.{and_left, and_right, eqb_is}

pub IsIn-left : {A : Type 0} (a : A) (xs ys : List A) → IsIn a xs → IsIn a (xs ++ ys)
IsIn-left a [] ys h = absurd h
IsIn-left a (x ∷ xs) ys (inl e) = inl e
IsIn-left a (x ∷ xs) ys (inr h) = inr (IsIn-left a xs ys h)

pub IsIn-right : {A : Type 0} (a : A) (xs ys : List A) → IsIn a ys → IsIn a (xs ++ ys)
IsIn-right a [] ys h = h
IsIn-right a (x ∷ xs) ys h = inr (IsIn-right a xs ys h)

pub IsIn-cases : {A : Type 0} (a : A) (xs ys : List A) → IsIn a (xs ++ ys) → IsIn a xs ⊎ IsIn a ys
IsIn-cases a [] ys h = inr h
IsIn-cases a (x ∷ xs) ys (inl e) = inl (inl e)
IsIn-cases a (x ∷ xs) ys (inr h) = elim (IsIn-cases a xs ys h) [ inl k ↦ inl (inr k) | inr k ↦ inr k ]

pub IsIn-map : {A B : Type 0} (f : A → B) (b : B) (xs : List A) → IsIn b (map f xs) → (a : A) × IsIn a xs × (b ≡ f a)
IsIn-map f b [] h = absurd h
IsIn-map f b (x ∷ xs) (inl e) = (x, inl refl, e)
IsIn-map f b (x ∷ xs) (inr h) = let k = IsIn-map f b xs h in (k.0, inr k.1, k.2)

pub IsIn-flat_map : {A B : Type 0} (f : A → List B) (b : B) (xs : List A) → IsIn b (flat_map f xs) → (a : A) × IsIn a xs × IsIn b (f a)
IsIn-flat_map f b [] h = absurd h
IsIn-flat_map f b (x ∷ xs) h = elim (IsIn-cases b (f x) (flat_map f xs) h) [
  | inl k ↦ (x, inl refl, k)
  | inr k ↦ let r = IsIn-flat_map f b xs k in (r.0, inr r.1, r.2)
]

pub IsIn-one_when : {A : Type 0} (t : Bool) (a b : A) → IsIn b (one_when t a) → (t ≡ true) × (b ≡ a)
IsIn-one_when true a b (inl e) = (refl, e)
IsIn-one_when true a b (inr h) = absurd h
IsIn-one_when false a b h = absurd h

-- a fact of a function changed at k
pub at_cases : {A : Type 0} (P : A → Type 0) (k : ℕ) (a : A) (f : ℕ → A) (j : ℕ) → (j ≡ k → P a) → P (f j) → P (at k a f j)
at_cases {A} P k a f j new old = go (j == k) refl
  where
    go : (t : Bool) → (j == k) ≡ t → P (cond t a (f j))
    go true e = new (eqb_is j k e)
    go false e = old

pub at_same : {A : Type 0} (k : ℕ) (a : A) (f : ℕ → A) → at k a f k ≡ a
at_same k a f = rw eqb_self refl
  where
    eqb_self : (k == k) ≡ true
    eqb_self = grind (arith, nat_tests)

pub at_other : {A : Type 0} (k : ℕ) (a : A) (f : ℕ → A) (j : ℕ) → j ≢ k → at k a f j ≡ f j
at_other k a f j n = go (j == k) refl
  where
    go : (t : Bool) → (j == k) ≡ t → cond t a (f j) ≡ f j
    go true e = absurd (n (eqb_is j k e))
    go false e = refl

pub flat_map_in : {A B : Type 0} (f : A → List B) (xs : List A) (a : A) (b : B) → IsIn a xs → IsIn b (f a) → IsIn b (flat_map f xs)
flat_map_in f [] a b i j = absurd i
flat_map_in f (x ∷ xs) a b (inl e) j = IsIn-left b (f x) (flat_map f xs) (subst (λ y. IsIn b (f y)) e j)
flat_map_in f (x ∷ xs) a b (inr i) j = IsIn-right b (f x) (flat_map f xs) (flat_map_in f xs a b i j)

pub all_in : {A : Type 0} (p : A → Bool) (xs : List A) (a : A) → list_all p xs ≡ true → IsIn a xs → p a ≡ true
all_in p [] a e i = absurd i
all_in p (x ∷ xs) a e (inl z) = ap p z ∙ and_left (p x) _ e
all_in p (x ∷ xs) a e (inr i) = all_in p xs a (and_right (p x) _ e) i

pub map_in : {A B : Type 0} (f : A → B) (xs : List A) (a : A) → IsIn a xs → IsIn (f a) (map f xs)
map_in f [] a i = i
map_in f (x ∷ xs) a (inl e) = inl (ap f e)
map_in f (x ∷ xs) a (inr i) = inr (map_in f xs a i)

-- each of the numbers 1 to n
pub upto_in : (n r : ℕ) → 0 < r → r ≤ n → IsIn r (upto n)
upto_in zero r a b = absurd (omega arith)
upto_in (suc n) r a b = elim (eqb_tells r (suc n)) [
  | inl e ↦ IsIn-right r (upto n) (suc n ∷ []) (inl e.1)
  | inr e ↦ (let f : r ≢ suc n = e.1 in IsIn-left r (upto n) (suc n ∷ []) (upto_in n r a (omega arith)))
]

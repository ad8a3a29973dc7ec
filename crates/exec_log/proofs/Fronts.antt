-- Fronts of lists, by place.
use Rattle.std.proofs.Common.{◌≡◌, ℕ, zero, suc, ◌<◌, ◌≤◌, List, [], ◌∷◌, ◌++◌, length, take, Some, refl, ap, inl, inr, ◌⊎◌, ⊎_elim, arith}
use Rattle.std.specs.Prelude.{slice_get}

module _ {A : Type 0} where
  -- within a list there is an element
  pub get_some : (xs : List A) (i : ℕ) → i < length xs → (x : A) × (slice_get xs i ≡ Some x)
  get_some [] i h = absurd (omega arith)
  get_some (x ∷ xs) zero h = (x, refl)
  get_some (x ∷ xs) (suc i) h = let within : i < length xs = omega arith in get_some xs i within

  -- one more element than a front
  pub take_one : (xs : List A) (i : ℕ) (x : A) → slice_get xs i ≡ Some x → take (suc i) xs ≡ take i xs ++ x ∷ []
  take_one [] i x h = cc
  take_one (y ∷ ys) zero x h = let same : y ≡ x = cc in ap (λ z. z ∷ []) same
  take_one (y ∷ ys) (suc i) x h = ap (λ l. y ∷ l) (take_one ys i x h)

  -- an element of a list with one more is one of the list, or the last
  pub get_last : (xs : List A) (x : A) (i : ℕ) (a : A) → slice_get (xs ++ x ∷ []) i ≡ Some a →
      ((i < length xs) × (slice_get xs i ≡ Some a)) ⊎ ((i ≡ length xs) × (a ≡ x))
  get_last [] x zero a h = inr (refl, cc)
  get_last [] x (suc i) a h = absurd (cc)
  get_last (y ∷ ys) x zero a h = inl (omega arith, h)
  get_last (y ∷ ys) x (suc i) a h = ⊎_elim (λ p. inl (omega (arith, p.0), p.1)) (λ p. inr (omega (arith, p.0), p.1)) (get_last ys x i a h)

  -- an element of a front
  pub get_take : (xs : List A) (n i : ℕ) (a : A) → slice_get (take n xs) i ≡ Some a → (i < n) × (slice_get xs i ≡ Some a)
  get_take xs zero i a h = absurd (cc)
  get_take [] (suc n) i a h = absurd (cc)
  get_take (y ∷ ys) (suc n) zero a h = (omega arith, h)
  get_take (y ∷ ys) (suc n) (suc i) a h = let rest = get_take ys n i a h in (omega (arith, rest.0), rest.1)

  pub take_take : (i n : ℕ) (xs : List A) → i ≤ n → take i (take n xs) ≡ take i xs
  take_take zero n xs h = refl
  take_take (suc i) zero xs h = absurd (omega arith)
  take_take (suc i) (suc n) [] h = refl
  take_take (suc i) (suc n) (x ∷ xs) h = let less : i ≤ n = omega arith in ap (λ l. x ∷ l) (take_take i n xs less)

  not_empty : (xs : List A) (x : A) → xs ++ x ∷ [] ≡ [] → ⊥
  not_empty [] x e = cc
  not_empty (y ∷ ys) x e = cc

  pub not_none : (xs : List A) (x : A) → [] ≡ xs ++ x ∷ [] → ⊥
  not_none [] x e = cc
  not_none (y ∷ ys) x e = cc

  -- what stands before the last element is known by the whole
  pub one_front : (xs ys : List A) (x y : A) → xs ++ x ∷ [] ≡ ys ++ y ∷ [] → xs ≡ ys
  one_front [] [] x y e = refl
  one_front [] (b ∷ ys) x y e = absurd (not_none ys y (cc))
  one_front (a ∷ xs) [] x y e = absurd (not_empty xs x (cc))
  one_front (a ∷ xs) (b ∷ ys) x y e =
      let first : a ≡ b = cc in
      let tails : xs ++ x ∷ [] ≡ ys ++ y ∷ [] = cc in
      let rest = one_front xs ys x y tails in
      cc

  -- and so is the last element
  pub one_last : (xs ys : List A) (x y : A) → xs ++ x ∷ [] ≡ ys ++ y ∷ [] → x ≡ y
  one_last [] [] x y e = cc
  one_last [] (b ∷ ys) x y e = absurd (not_none ys y (cc))
  one_last (a ∷ xs) [] x y e = absurd (not_empty xs x (cc))
  one_last (a ∷ xs) (b ∷ ys) x y e = let tails : xs ++ x ∷ [] ≡ ys ++ y ∷ [] = cc in one_last xs ys x y tails

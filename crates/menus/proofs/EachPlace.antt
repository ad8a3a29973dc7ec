-- A fact of each item of a list with its place, where one item changes or one more stands behind them.
use Rattle.std.proofs.Common.{◌≡◌, ◌≢◌, ◌⊎◌, inl, inr, ℕ, zero, suc, ◌<◌, Bool, true, false, List, [], ◌∷◌, ◌++◌, Option, Some, length, get_or, set}
use Rattle.std.proofs.Common.{refl, sym, subst, ap, arith}
use Rattle.std.specs.Prelude.{◌==◌}
use Rattle.std.specs.List.{slice_get}
use Rattle.std.proofs.lemmas.Bool.Decides.{nat_tests}
use Rattle.std.proofs.lemmas.Option.{slice_get_read}

abbrev pub Each : {A : Type 0} → (ℕ → A → Type 0) → List A → Type 0
Each {A = A} P xs = (i : ℕ) (x : A) → slice_get xs i ≡ Some x → P i x

pub some_is : {A : Type 0} (x y : A) (o : Option A) → o ≡ Some x → o ≡ Some y → x ≡ y
some_is x y o e f = cc (e, f)

get_set : {A : Type 0} (xs : List A) (k i : ℕ) (x y : A) → slice_get (set xs k x) i ≡ Some y → ((q : i ≡ k) → y ≡ x) × ((n : i ≢ k) → slice_get xs i ≡ Some y)
get_set [] k i x y e = absurd (cc e)
get_set (z ∷ xs) zero zero x y e = ((λ q. sym (some_is x y (Some x) refl e)), (λ n. absurd (n refl)))
get_set (z ∷ xs) zero (suc i) x y e = ((λ q. absurd (omega (arith, q))), (λ n. e))
get_set (z ∷ xs) (suc k) zero x y e = ((λ q. absurd (omega (arith, q))), (λ n. e))
get_set (z ∷ xs) (suc k) (suc i) x y e =
    let more = get_set xs k i x y e in
    ((λ q. more.0 (omega (arith, q))), (λ n. more.1 (λ q. n (ap suc q))))

get_push : {A : Type 0} (xs : List A) (i : ℕ) (x y : A) → slice_get (xs ++ x ∷ []) i ≡ Some y → (slice_get xs i ≡ Some y) ⊎ ((i ≡ length xs) × (y ≡ x))
get_push [] zero x y e = inr (refl, sym (some_is x y (Some x) refl e))
get_push [] (suc i) x y e = absurd (cc e)
get_push (z ∷ xs) zero x y e = inl e
get_push (z ∷ xs) (suc i) x y e = elim (get_push xs i x y e) [ inl a ↦ inl a | inr a ↦ inr (ap suc a.0, a.1) ]

-- the item at a place that there is
pub each_at : {A : Type 0} (P : ℕ → A → Type 0) (xs : List A) (k : ℕ) (x : A) → k < length xs → x ≡ get_or xs k x → Each P xs → P k x
each_at P xs k x h v each = each k x (slice_get_read xs (length xs) k x refl h v)

-- another item takes a place
pub each_with : {A : Type 0} (P Q : ℕ → A → Type 0) (xs : List A) (k : ℕ) (x : A) → Each P xs → Q k x → ((i : ℕ) (y : A) → i ≢ k → P i y → Q i y) →
    Each Q (set xs k x)
each_with {A = A} P Q xs k x each here others = λ i y e. let cases = get_set xs k i x y e in go i y (i == k) refl cases
  where
    go : (i : ℕ) (y : A) (t : Bool) → (i == k) ≡ t → (((q : i ≡ k) → y ≡ x) × ((n : i ≢ k) → slice_get xs i ≡ Some y)) → Q i y
    go i y true q cases =
        let e : i ≡ k = grind (arith, nat_tests) in
        let at : Q k y = subst (λ z. Q k z) (sym (cases.0 e)) here in
        subst (λ j. Q j y) (sym e) at
    go i y false q cases =
        let n : i ≢ k = λ r. let t : (i == k) ≡ true = grind (arith, nat_tests) in absurd (cc (q, t)) in
        others i y n (each i y (cases.1 n))

-- one more item stands behind them
pub each_push : {A : Type 0} (P : ℕ → A → Type 0) (xs : List A) (x : A) → Each P xs → P (length xs) x → Each P (xs ++ x ∷ [])
each_push P xs x each p = λ i y e. elim (get_push xs i x y e) [
  | inl b ↦ each i y b
  | inr b ↦ subst (λ j. P j y) (sym b.0) (subst (λ z. P (length xs) z) (sym b.1) p)
]

-- One node takes its turn, and the others stand for what they stood for.
use Rattle.std.proofs.Common.{◌≡◌, ◌≢◌, ℕ, zero, suc, ◌-◌, ◌<◌, ◌≤◌, Bool, true, false, List, [], ◌∷◌, ◌++◌, ◌⊎◌, inl, inr, Option, Some, length, get_or, set, refl, sym, subst, ap, arith}
use Rattle.std.specs.Prelude.{◌==◌}
use Rattle.std.specs.List.{slice_get}
use Rattle.std.proofs.lemmas.Bool.Decides.{nat_tests}
use Rattle.std.proofs.lemmas.Option.{slice_get_read}
use Rattle.protocol.specs.World.Events.{at}
use Rattle.protocol.proofs.ListsLemmas.{at_same, at_other}

-- each node stands for the state of its number
abbrev pub Stand : {S A : Type 0} → (ℕ → S → A → Type 0) → (ℕ → S) → List A → Type 0
Stand {S = S} {A = A} P states xs = (i : ℕ) (x : A) → slice_get xs i ≡ Some x → P (suc i) (states (suc i)) x

some_is : {A : Type 0} (x y : A) (o : Option A) → o ≡ Some x → o ≡ Some y → x ≡ y
some_is x y o e f = cc (e, f)

get_set : {A : Type 0} (xs : List A) (k i : ℕ) (x y : A) → slice_get (set xs k x) i ≡ Some y → ((q : i ≡ k) → y ≡ x) × ((n : i ≢ k) → slice_get xs i ≡ Some y)
get_set [] k i x y e = absurd (cc e)
get_set (z ∷ xs) zero zero x y e = ((λ q. sym (some_is x y (Some x) refl e)), (λ n. absurd (n refl)))
get_set (z ∷ xs) zero (suc i) x y e = ((λ q. absurd (omega (arith, q))), (λ n. e))
get_set (z ∷ xs) (suc k) zero x y e = ((λ q. absurd (omega (arith, q))), (λ n. e))
get_set (z ∷ xs) (suc k) (suc i) x y e =
    let more = get_set xs k i x y e in
    ((λ q. more.0 (omega (arith, q))), (λ n. more.1 (λ q. n (ap suc q))))

pub placed : {S A : Type 0} (P : ℕ → S → A → Type 0) (states : ℕ → S) (xs : List A) (k : ℕ) (x : A) (s : S) →
    Stand P states xs → P (suc k) s x → Stand P (at (suc k) s states) (set xs k x)
placed {S = S} {A = A} P states xs k x s h p = λ i y e.
    let cases = get_set xs k i x y e in
    go i y (i == k) refl cases
  where
    go : (i : ℕ) (y : A) (t : Bool) → (i == k) ≡ t → (((q : i ≡ k) → y ≡ x) × ((n : i ≢ k) → slice_get xs i ≡ Some y)) → P (suc i) (at (suc k) s states (suc i)) y
    go i y true q cases =
        let e : i ≡ k = grind (arith, nat_tests) in
        let here : P (suc k) (at (suc k) s states (suc k)) x = subst (λ u. P (suc k) u x) (sym (at_same (suc k) s states)) p in
        let there : P (suc k) (at (suc k) s states (suc k)) y = subst (λ z. P (suc k) (at (suc k) s states (suc k)) z) (sym (cases.0 e)) here in
        subst (λ j. P (suc j) (at (suc k) s states (suc j)) y) (sym e) there
    go i y false q cases =
        let other : suc i ≢ suc k = λ r. let f : i ≡ k = omega (arith, r) in let t : (i == k) ≡ true = grind (arith, nat_tests) in absurd (cc (q, t)) in
        let n : i ≢ k = λ r. other (ap suc r) in
        subst (λ u. P (suc i) u y) (sym (at_other (suc k) s states (suc i) other)) (h i y (cases.1 n))

get_push : {A : Type 0} (xs : List A) (i : ℕ) (x y : A) → slice_get (xs ++ x ∷ []) i ≡ Some y → (slice_get xs i ≡ Some y) ⊎ ((i ≡ length xs) × (y ≡ x))
get_push [] zero x y e = inr (refl, sym (some_is x y (Some x) refl e))
get_push [] (suc i) x y e = absurd (cc e)
get_push (z ∷ xs) zero x y e = inl e
get_push (z ∷ xs) (suc i) x y e = elim (get_push xs i x y e) [ inl a ↦ inl a | inr a ↦ inr (ap suc a.0, a.1) ]

-- the node of a number stands for its state, and once it takes its turn all stand for the states with its new one
pub node_at : {S A : Type 0} (P : ℕ → S → A → Type 0) (states : ℕ → S) (xs : List A) (n : ℕ) (r : A) → 0 < n → n ≤ length xs → r ≡ get_or xs (n - 1) r →
    Stand P states xs → P n (states n) r
node_at P states xs n r low high v h =
    let e : suc (n - 1) ≡ n = omega arith in
    subst (λ m. P m (states m) r) e (h (n - 1) r (slice_get_read xs (length xs) (n - 1) r refl (omega arith) v))

pub node_placed : {S A : Type 0} (P : ℕ → S → A → Type 0) (states : ℕ → S) (xs : List A) (n : ℕ) (x : A) (s : S) → 0 < n →
    Stand P states xs → P n s x → Stand P (at n s states) (set xs (n - 1) x)
node_placed P states xs n x s low h p =
    let e : suc (n - 1) ≡ n = omega arith in
    subst (λ m. Stand P (at m s states) (set xs (n - 1) x)) e (placed P states xs (n - 1) x s h (subst (λ m. P m s x) (sym e) p))

-- one more node stands behind them
pub pushed : {S A : Type 0} (P : ℕ → S → A → Type 0) (states : ℕ → S) (xs : List A) (x : A) → Stand P states xs → P (suc (length xs)) (states (suc (length xs))) x →
    Stand P states (xs ++ x ∷ [])
pushed P states xs x h p = λ i y e. elim (get_push xs i x y e) [
  | inl b ↦ h i y b
  | inr b ↦ subst (λ j. P (suc j) (states (suc j)) y) (sym b.0) (subst (λ z. P (suc (length xs)) (states (suc (length xs))) z) (sym b.1) p)
]

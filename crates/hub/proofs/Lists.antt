-- Lists by their places.
use Rattle.std.proofs.Common.{◌≡◌, ℕ, suc, zero, ◌<◌, Bool, true, false, ◌&&◌, List, [], ◌∷◌}
use Rattle.std.proofs.Common.{length, replicate, get_or, set, map, Option, Some, None, refl, sym, ◌∙◌, ap, arith}
use Rattle.std.specs.List.{list_all, slice_get}

-- a list whose places are all the same
pub is_replicate : {A : Type 0} (a : A) (xs : List A) → ((k : ℕ) → k < length xs → get_or xs k a ≡ a) → xs ≡ replicate (length xs) a
is_replicate a [] h = refl
is_replicate a (x ∷ xs) h =
    ap (λ y. y ∷ xs) (h 0 (omega arith)) ∙ ap (λ ys. a ∷ ys) (is_replicate a xs (λ k lt. h (suc k) (omega arith)))

both_true : (a b : Bool) → a ≡ true → b ≡ true → (a && b) ≡ true
both_true a b p q = ap (λ c. c && b) p ∙ q

left_false : (a b : Bool) → a ≡ false → (a && b) ≡ false
left_false a b p = ap (λ c. c && b) p

right_false : (a b : Bool) → b ≡ false → (a && b) ≡ false
right_false true b p = p
right_false false b p = refl

-- what holds at each place holds of all
pub all_from : {A : Type 0} (p : A → Bool) (xs : List A) → ((k : ℕ) (a : A) → slice_get xs k ≡ Some a → p a ≡ true) → list_all p xs ≡ true
all_from p [] h = refl
all_from p (x ∷ xs) h = both_true (p x) (list_all p xs) (h 0 x refl) (all_from p xs (λ k a e. h (suc k) a e))

-- one place where it does not hold
pub all_fails : {A : Type 0} (p : A → Bool) (xs : List A) (k : ℕ) (a : A) → slice_get xs k ≡ Some a → p a ≡ false → list_all p xs ≡ false
all_fails {A} p [] k a e f = absurd (let e' : ◌≡◌ {A = Option A} None (Some a) = e in cc)
all_fails p (x ∷ xs) zero a e f = left_false (p x) (list_all p xs) (let e' : Some x ≡ Some a = e in let same : x ≡ a = cc in ap p same ∙ f)
all_fails p (x ∷ xs) (suc k) a e f = right_false (p x) (list_all p xs) (all_fails p xs k a e f)

-- a place that is there
pub get_there : {A : Type 0} (xs : List A) (k : ℕ) → k < length xs → (a : A) × (slice_get xs k ≡ Some a)
get_there [] k lt = absurd (omega arith)
get_there (x ∷ xs) zero lt = (x, refl)
get_there (x ∷ xs) (suc k) lt = get_there xs k (omega arith)

-- what stands at a place of a mapped list
pub get_map : {A B : Type 0} (f : A → B) (xs : List A) (k : ℕ) (a : A) → k < length xs → a ≡ get_or xs k a → slice_get (map f xs) k ≡ Some (f a)
get_map f [] k a lt e = absurd (omega arith)
get_map f (x ∷ xs) zero a lt e = ap (λ y. Some (f y)) (sym e)
get_map f (x ∷ xs) (suc k) a lt e = get_map f xs k a (omega arith) e

pub map_set : {A B : Type 0} (f : A → B) (xs : List A) (k : ℕ) (a : A) → map f (set xs k a) ≡ set (map f xs) k (f a)
map_set f [] k a = refl
map_set f (x ∷ xs) zero a = refl
map_set f (x ∷ xs) (suc k) a = ap (λ ys. f x ∷ ys) (map_set f xs k a)

pub map_same : {A B : Type 0} (b : B) (xs : List A) → replicate (length xs) b ≡ map (λ _. b) xs
map_same b [] = refl
map_same b (x ∷ xs) = ap (λ ys. b ∷ ys) (map_same b xs)

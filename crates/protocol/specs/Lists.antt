-- Words on lists and options.
use Rattle.std.specs.Prelude.{◌≡◌, ℕ, zero, suc, ◌⊎◌, Bool, true, false, cond, List, [], ◌∷◌, ◌++◌}

-- x is an element of the list
abbrev pub IsIn : {A : Type 0} → A → List A → Type 0
IsIn x [] = ⊥
IsIn x (y ∷ ys) = (x ≡ y) ⊎ IsIn x ys

-- one element where the test holds, else none
abbrev pub one_when : {A : Type 0} → Bool → A → List A
one_when true a = a ∷ []
one_when false a = []

-- the numbers from 1 to n
abbrev pub upto : ℕ → List ℕ
upto zero = []
upto (suc n) = upto n ++ (suc n ∷ [])

-- how many elements pass the test
abbrev pub tally : {A : Type 0} → (A → Bool) → List A → ℕ
tally p [] = 0
tally p (x ∷ xs) = cond (p x) (suc (tally p xs)) (tally p xs)

-- each element comes before all that stand after it
abbrev pub IsRisingBy : {A : Type 0} → (A → A → Bool) → List A → Type 0
IsRisingBy earlier [] = Unit {0}
IsRisingBy {A = A} earlier (x ∷ xs) = ((y : A) → IsIn y xs → earlier x y ≡ true) × IsRisingBy earlier xs

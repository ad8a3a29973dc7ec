-- What one more element at the end of a list changes.
use Rattle.std.proofs.Common.{◌≡◌, ℕ, suc, ◌+◌, Bool, true, false, cond, List, [], ◌∷◌, ◌++◌, refl, ap, ◌∙◌, ◌||◌, add-one, append-nil}
use Rattle.std.specs.Prelude.{flat_map}
use Rattle.std.specs.List.{list_any}
use Rattle.std.proofs.lemmas.Grind.{flat_map-append}
use Rattle.protocol.specs.Lists.{upto}

pub any_more : {A : Type 0} (p : A → Bool) (xs : List A) (x : A) → list_any p (xs ++ x ∷ []) ≡ cond (p x) true (list_any p xs)
any_more p [] x = go (p x)
  where
    go : (t : Bool) → (t || false) ≡ cond t true false
    go true = refl
    go false = refl
any_more p (y ∷ ys) x = ap (λ t. p y || t) (any_more p ys x) ∙ go (p y) (p x) (list_any p ys)
  where
    go : (t u v : Bool) → (t || cond u true v) ≡ cond u true (t || v)
    go true true v = refl
    go true false v = refl
    go false true v = refl
    go false false v = refl

pub upto_more : {A : Type 0} (f : ℕ → List A) (i : ℕ) → flat_map f (upto (i + 1)) ≡ flat_map f (upto i) ++ f (i + 1)
upto_more {A} f i = rw add-one (flat_map-append f (upto i) (suc i ∷ []) ∙ ap (λ (l : List A). flat_map f (upto i) ++ l) (append-nil (f (suc i))))

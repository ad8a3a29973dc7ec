-- A rising list is fixed by its members.
use Rattle.std.proofs.Common.{◌≡◌, ◌⊎◌, inl, inr, refl, ap, sym, ◌∙◌, subst, true, false, Bool, List, [], ◌∷◌}
use Rattle.protocol.specs.Lists.{IsIn, IsRisingBy}

-- nothing is before itself, and what is before is so along a chain
pub record IsStrict {A : Type 0} (earlier : A → A → Bool) : Type 0 where
  pub itself : (a : A) → earlier a a ≡ false
  pub chain : (a b c : A) → earlier a b ≡ true → earlier b c ≡ true → earlier a c ≡ true

-- two rising lists with the same members are equal
pub same_members : {A : Type 0} (earlier : A → A → Bool) → IsStrict earlier → (xs ys : List A) → IsRisingBy earlier xs → IsRisingBy earlier ys →
    ((a : A) → IsIn a xs → IsIn a ys) → ((a : A) → IsIn a ys → IsIn a xs) → xs ≡ ys
same_members earlier o [] [] r s f g = refl
same_members earlier o [] (y ∷ ys) r s f g = absurd (g y (inl refl))
same_members earlier o (x ∷ xs) [] r s f g = absurd (f x (inl refl))
same_members {A = A} earlier o (x ∷ xs) (y ∷ ys) r s f g = go (same_members earlier o xs ys r.1 s.1) (f x (inl refl)) (g y (inl refl))
  where
    not_itself : (a b : A) → earlier a b ≡ true → a ≡ b → ⊥
    not_itself a b e z = let never : true ≡ false = sym e ∙ subst (λ (c : A). earlier a c ≡ false) z (o.itself a) in cc

    join : x ≡ y → xs ≡ ys → x ∷ xs ≡ y ∷ ys
    join e h = ap (λ (a : A). a ∷ xs) e ∙ ap (λ (l : List A). y ∷ l) h

    tails : x ≡ y → (((a : A) → IsIn a xs → IsIn a ys) → ((a : A) → IsIn a ys → IsIn a xs) → xs ≡ ys) → x ∷ xs ≡ y ∷ ys
    tails e ih = join e (ih
        (λ a i. elim (f a (inr i)) [ inl z ↦ absurd (not_itself x a (r.0 a i) (e ∙ sym z)) | inr j ↦ j ])
        (λ a i. elim (g a (inr i)) [ inl z ↦ absurd (not_itself y a (s.0 a i) (sym e ∙ sym z)) | inr j ↦ j ]))

    go : (((a : A) → IsIn a xs → IsIn a ys) → ((a : A) → IsIn a ys → IsIn a xs) → xs ≡ ys) → (x ≡ y) ⊎ IsIn x ys → (y ≡ x) ⊎ IsIn y xs → x ∷ xs ≡ y ∷ ys
    go ih (inl e) i = tails e ih
    go ih (inr i) (inl e) = tails (sym e) ih
    go ih (inr i) (inr j) = absurd (not_itself x x (o.chain x y x (r.0 y j) (s.0 x i)) refl)

-- Two ways to say that a list rises: each element before the next one, or before all that come after it.
use Rattle.std.proofs.Common.{◌≡◌, inl, inr, refl, sym, subst, true, Bool, List, [], ◌∷◌}
use Rattle.protocol.specs.Lists.{IsRisingBy}
use Rattle.wire.specs.Sendable.{Rises}

-- what is before all that comes after it is before the next
pub rises : {A : Type 0} (earlier : A → A → Bool) (xs : List A) → IsRisingBy earlier xs → Rises earlier xs
rises earlier [] r = tt
rises earlier (x ∷ []) r = (tt, tt)
rises earlier (x ∷ y ∷ xs) r = (r.0 y (inl refl), rises earlier (y ∷ xs) r.1)

-- and the other way round, where what is before is so along a chain
pub rising_by : {A : Type 0} (earlier : A → A → Bool) → ((a b c : A) → earlier a b ≡ true → earlier b c ≡ true → earlier a c ≡ true) → (xs : List A) →
    Rises earlier xs → IsRisingBy earlier xs
rising_by earlier chain [] r = tt
rising_by earlier chain (x ∷ []) r = (λ y i. absurd i, tt)
rising_by {A = A} earlier chain (x ∷ y ∷ xs) r = go (rising_by earlier chain (y ∷ xs) r.1)
  where
    go : IsRisingBy earlier (y ∷ xs) → IsRisingBy earlier (x ∷ y ∷ xs)
    go later = (
      λ z i. elim i [
        | inl e ↦ subst (λ (b : A). earlier x b ≡ true) (sym e) r.0
        | inr j ↦ chain x y z r.0 (later.0 z j)
      ],
      later,
    )

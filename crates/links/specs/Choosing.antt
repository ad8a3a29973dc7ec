-- Which of the links that were handed in are those of a run.
use Rattle.std.specs.Prelude.{◌≡◌, ℕ, ◌<◌, Bool, true, false, ◌&&◌, ◌==◌, List, map, length, Option, Some, None, is_some}
use Rattle.std.specs.List.{find, slice_get}
use Rattle.net_core.specs.declared.plan.LinkKind.{LinkKind}
use Rattle.net_core.specs.declared.plan.LinkKind.TheVariants.{Fair, Listed, Seeded}
use Rattle.net_core.specs.Ruled.{LinkState}
use Rattle.links.specs.declared.choosing.Chosen.{Chosen}
use Rattle.links.specs.declared.choosing.Chosen.TheVariants.{All, Missing}

abbrev pub same_kind : LinkKind → LinkKind → Bool
same_kind Fair Fair = true
same_kind Listed Listed = true
same_kind Seeded Seeded = true
same_kind _ _ = false

-- the link is of this kind and slot
abbrev pub is_for : LinkKind → ℕ → LinkState → Bool
is_for kind slot a = same_kind kind a.kind && (slot == a.slot)

-- the first such link
abbrev pub first_for : LinkKind → ℕ → List LinkState → Option LinkState
first_for kind slot handed = find (is_for kind slot) handed

-- of the first n slots, each has the first link that was handed in for it
pub record AreChosen (kind : LinkKind) (handed : List LinkState) (n : ℕ) (chosen : List LinkState) : Type 0 where
  pub count : length chosen ≡ n
  pub each : (i : ℕ) (a : LinkState) → slice_get chosen i ≡ Some a → first_for kind i handed ≡ Some a

-- it is the lowest slot for which no link was handed in
pub record IsMissing (kind : LinkKind) (handed : List LinkState) (slot : ℕ) : Type 0 where
  pub none : first_for kind slot handed ≡ None
  pub lowest : (i : ℕ) → i < slot → is_some (first_for kind i handed) ≡ true

-- none of the first i elements tells a link of this kind and slot
abbrev pub NoneBefore : {V : Type 0} → (V → LinkState) → LinkKind → ℕ → List V → ℕ → Type 0
NoneBefore {V} state kind slot ls i = (j : ℕ) (l : V) → j < i → slice_get ls j ≡ Some l → is_for kind slot (state l) ≡ false

-- in a list whose elements tell these states, the place is that of the first link of this kind and slot
abbrev pub IsPlaceOf : {V : Type 0} → (V → LinkState) → LinkKind → ℕ → List V → Option ℕ → Type 0
IsPlaceOf {V} state kind slot ls None = (j : ℕ) (l : V) → slice_get ls j ≡ Some l → is_for kind slot (state l) ≡ false
IsPlaceOf {V} state kind slot ls (Some i) =
    (i < length ls) × ((l : V) → slice_get ls i ≡ Some l → is_for kind slot (state l) ≡ true) × NoneBefore state kind slot ls i

-- what was chosen: a link for each slot, or the lowest slot without one
abbrev pub IsChoice : {V : Type 0} → (V → LinkState) → LinkKind → List LinkState → ℕ → Chosen V → Type 0
IsChoice state kind handed n (All ls) = AreChosen kind handed n (map state ls.items)
IsChoice state kind handed n (Missing slot) = (slot < n) × IsMissing kind handed slot

-- The bytes that a source has left and those that a sink has taken, before and after a call, where they are told.
use Rattle.std.specs.Prelude.{◌≡◌, ◌<◌, ℕ, List, ◌++◌, length, take, Option, None, Some, IsSomeAnd}

-- bytes that are not told
abbrev pub untold : Option (List ℕ)
untold = None

-- these bytes left from the front of what was left, and whether that is told stays
abbrev pub Gives : Option (List ℕ) → Option (List ℕ) → List ℕ → Type 0
Gives None new moved = new ≡ None
Gives (Some bytes) new moved = IsSomeAnd new (λ rest. bytes ≡ moved ++ rest)

-- the piece went to the end of what was taken, and whether that is told stays
abbrev pub Takes : Option (List ℕ) → Option (List ℕ) → List ℕ → Type 0
Takes None new piece = new ≡ None
Takes (Some already) new piece = new ≡ Some (already ++ piece)

-- a front of the bytes was taken, and not all of them
abbrev pub TakesPart : Option (List ℕ) → Option (List ℕ) → List ℕ → Type 0
TakesPart old new bytes = (n : ℕ) × (n < length bytes) × Takes old new (take n bytes)

-- untold stays untold, and where they are told, P holds of the bytes left before and after
abbrev pub IfTold : Option (List ℕ) → Option (List ℕ) → (List ℕ → List ℕ → Type 0) → Type 0
IfTold None new P = new ≡ None
IfTold (Some bytes) new P = IsSomeAnd new (λ rest. P bytes rest)

-- rest is what is left of the bytes once some went from their front
abbrev pub IsRestOf : List ℕ → List ℕ → Type 0
IsRestOf bytes rest = (front : List ℕ) × (bytes ≡ front ++ rest)

-- Keys with values: what a run reads and writes, and a map of the store.
use Rattle.std.specs.Prelude.{◌≡◌, Bool, true, false, List, [], ◌∷◌, Option, Some, None, unwrap_or, ℤ, pos}
use Rattle.morty_base.specs.declared.names.Key.{Key}
use Rattle.morty_base.specs.Names.{same_key}

-- a key with a value, as it was read, written or is held
pub record Entry : Type 0 where
  pub key : Key
  pub value : ℤ

abbrev pub entry : Key → ℤ → Entry
entry k x = record { key = k; value = x }

abbrev pub first_of : Bool → ℤ → Option ℤ → Option ℤ
first_of true x rest = Some x
first_of false x rest = rest

-- the value of the first entry of a key
abbrev pub found : List Entry → Key → Option ℤ
found [] k = None
found (e ∷ es) k = first_of (same_key e.key k) e.value (found es k)

-- a finite map is a list of entries, the newest first; a missing key holds 0
abbrev pub held : List Entry → Key → ℤ
held map k = unwrap_or (found map k) (pos 0)

-- the map after writes, the first of them made first
abbrev pub after_writes : List Entry → List Entry → List Entry
after_writes [] map = map
after_writes (w ∷ ws) map = after_writes ws (w ∷ map)

-- two maps that hold the same at each key
pub record HoldTheSame (m n : List Entry) : Type 0 where
  pub each : (k : Key) → held m k ≡ held n k

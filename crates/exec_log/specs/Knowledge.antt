-- What is known of keys, in rising order, each key once.
use Rattle.std.specs.Prelude.{◌≡◌, ℕ, zero, suc, Bool, true, false, List, [], ◌∷◌, Option, Some, None, ⊤}
use Rattle.morty_base.specs.declared.names.Key.{Key}
use Rattle.morty_base.specs.Names.{key_before, same_key}
use Rattle.txn_lang.specs.Keys.{Entry}

-- the key is before all of these
abbrev pub IsBelow : Key → List Entry → Type 0
IsBelow k [] = ⊤
IsBelow k (e ∷ es) = (key_before k e.key ≡ true) × IsBelow k es

-- rising by key, each key once
abbrev pub IsRising : List Entry → Type 0
IsRising [] = ⊤
IsRising (e ∷ es) = IsBelow e.key es × IsRising es

abbrev pub ranked : Bool → ℕ → ℕ
ranked true n = suc n
ranked false n = zero

-- how many entries stand before the place of a key
abbrev pub rank : Key → List Entry → ℕ
rank k [] = zero
rank k (e ∷ es) = ranked (key_before e.key k) (rank k es)

abbrev pub is_of : Option Entry → Key → Bool
is_of None k = false
is_of (Some e) k = same_key e.key k

abbrev pub placed : Bool → Bool → Entry → Entry → List Entry → List Entry → List Entry
placed true same e first rest later = first ∷ later
placed false true e first rest later = e ∷ rest
placed false false e first rest later = e ∷ first ∷ rest

-- rising entries with one more, which takes the place of an entry of its key
abbrev pub with_entry : Entry → List Entry → List Entry
with_entry e [] = e ∷ []
with_entry e (x ∷ xs) = placed (key_before x.key e.key) (same_key x.key e.key) e x xs (with_entry e xs)

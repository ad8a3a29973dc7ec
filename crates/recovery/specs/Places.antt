-- Where what concerns each execution stands in a list, as a map tells it.
use Rattle.std.specs.Prelude.{◌≡◌, ℕ, cond, List, [], ◌∷◌, reverse, length, Option, Some, None}
use Rattle.std.specs.declared.cmp.Ordering.{Ordering}
use Rattle.std.specs.Ordering.{nat_cmp, ordering_then}
use Rattle.std.specs.BTreeMap.{get}
use Rattle.protocol.specs.Words.{Exec, same_exec}
use Rattle.recovery.specs.declared.places.Places.{Places}

-- executions by version, and then by number, as the order of the map's keys is derived
abbrev pub exec_cmp : Exec → Exec → Ordering
exec_cmp a b = ordering_then (ordering_then (nat_cmp a.ver.ts b.ver.ts) (nat_cmp a.ver.client b.ver.client)) (nat_cmp a.eid b.eid)

abbrev pub listed : Option (List ℕ) → List ℕ
listed None = []
listed (Some places) = places

-- the places that the map tells of x
abbrev pub places_at : Places → Exec → List ℕ
places_at t x = listed (get exec_cmp t.by_exec x)

-- the places of x in a list that has the newest first, the newest first; places count from the oldest
abbrev pub places_of : Exec → List Exec → List ℕ
places_of x [] = []
places_of x (y ∷ older) = cond (same_exec x y) (length older ∷ places_of x older) (places_of x older)

-- the map tells the places of each execution
abbrev pub IsIndexOf : Places → List Exec → Type 0
IsIndexOf t execs = (x : Exec) → reverse (places_at t x) ≡ places_of x execs

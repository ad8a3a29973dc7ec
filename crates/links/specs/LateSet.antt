-- What a set tells of a list of late envelopes.
use Rattle.std.specs.Prelude.{◌≡◌, ℕ, ◌≤◌, nat_eq, List, length, take}
use Rattle.std.specs.HashSet.{contains}
use Rattle.net_core.specs.SeededRule.{is_among}
use Rattle.links.specs.declared.late_set.LateSet.{LateSet}

-- the set has just the places in the front of the list, as many as it counts
pub record HasFront (late : List ℕ) (s : LateSet) : Type 0 where
  pub within : s.count ≤ length late
  pub has : (i : ℕ) → contains nat_eq s.places i ≡ is_among (take s.count late) i

-- the set has just the places in the list
abbrev pub HasAll : List ℕ → LateSet → Type 0
HasAll late s = (i : ℕ) → contains nat_eq s.places i ≡ is_among late i

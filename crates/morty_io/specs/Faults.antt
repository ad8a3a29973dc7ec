-- Counts in 64 bits of what happened, as of faults: they stand still at their greatest value.
use Rattle.std.specs.Prelude.{ℕ, ◌+◌, ◌-◌, ◌^◌, ◌≤◌, min}

-- the greatest count
abbrev pub most_counted : ℕ
most_counted = 2 ^ 64 - 1

-- the count after one more
abbrev pub one_more : ℕ → ℕ
one_more count = min (count + 1) most_counted

-- the count rose; one that stands at its greatest value counts as having risen
abbrev pub Rose : ℕ → ℕ → Type 0
Rose old new = one_more old ≤ new

-- First values as a function of keys.
use Rattle.std.specs.Prelude.{ℤ, pos, Option, Some, None}
use Rattle.std.specs.Ordering.{nat_cmp, int_cmp, ordering_then}
use Rattle.std.specs.declared.cmp.Ordering.{Ordering}
use Rattle.std.specs.BTreeMap.{get}
use Rattle.protocol.specs.Words.{Key}
use Rattle.protocol.specs.declared.Held.{Held}
use Rattle.protocol.specs.Replica.Held.{first_value}
use Rattle.mv_index.specs.declared.first_values.FirstValues.{FirstValues}

-- keys by table, and then by index
abbrev pub key_cmp : Key → Key → Ordering
key_cmp a b = ordering_then (nat_cmp a.table b.table) (int_cmp a.index b.index)

-- the first value of k, where there is one
abbrev pub value_at : FirstValues → Key → Option ℤ
value_at t k = get key_cmp t.values k

-- the same as a write, with 0 where there is none
abbrev pub first_of : Option ℤ → Held
first_of None = first_value (pos 0)
first_of (Some v) = first_value v

-- The abandoned executions as a function of versions and numbers.
use Rattle.std.specs.Prelude.{ℕ, Bool, false, nat_le, Option, Some, None}
use Rattle.std.specs.BTreeMap.{get}
use Rattle.protocol.specs.Words.{Version}
use Rattle.mv_index.specs.Orders.{version_cmp}
use Rattle.mv_index.specs.declared.abandon_table.AbandonTable.{AbandonTable}

-- there is a number, and n is not above it
abbrev pub is_up_to : ℕ → Option ℕ → Bool
is_up_to n None = false
is_up_to n (Some m) = nat_le n m

-- whether an execution of version v with the number n or a greater one is in the table
abbrev pub is_blocked_at : AbandonTable → Version → ℕ → Bool
is_blocked_at t v n = is_up_to n (get version_cmp t.greatest v)

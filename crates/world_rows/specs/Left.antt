-- The transactions that are committed, and those that are left.
use Rattle.std.specs.Prelude.{◌≡◌, ℕ, Bool, cond, ◌==◌, nat_lt, List, [], ◌∷◌}
use Rattle.std.specs.declared.cmp.Ordering.{Ordering}
use Rattle.std.specs.Ordering.{nat_cmp, ordering_then}
use Rattle.std.specs.BTreeSet.{BTreeSet, contains}
use Rattle.report.specs.declared.rows.Left.{Left}
use Rattle.report.specs.declared.rows.Left.TheVariants.{Aborted, Unbegun}
use Rattle.report.specs.declared.rows.LeftRow.{LeftRow}
use Rattle.protocol.specs.World.Committed.{CommittedExec}
use Rattle.world_rows.specs.Rows.{has_commit, left_by}
use Rattle.world_rows.specs.declared.left.Progress.{Progress}
use Rattle.world_rows.specs.declared.left.TxnName.{TxnName}

-- transactions by client, and then by number
abbrev pub txn_cmp : TxnName → TxnName → Ordering
txn_cmp a b = ordering_then (nat_cmp a.client b.client) (nat_cmp a.txn b.txn)

abbrev pub is_done : BTreeSet TxnName → ℕ → ℕ → Bool
is_done done c n = contains txn_cmp done (record { client = c; txn = n })

-- they are those of these executions
pub record AreDone (cs : List CommittedExec) (done : BTreeSet TxnName) : Type 0 where
  pub each : (c n : ℕ) → is_done done c n ≡ has_commit cs c n

-- what a client tells of its transaction n, of which nothing is committed
abbrev pub left_in : Progress → ℕ → Left
left_in g n = cond (nat_lt g.begun n) Unbegun (cond (n == g.begun) (left_by g.fate) Aborted)

-- the row of transaction n of client c, where it is not done
abbrev pub left_at : BTreeSet TxnName → Progress → ℕ → ℕ → List LeftRow
left_at done g c n = cond (is_done done c n) [] (record { client = c; txn = n; state = left_in g n } ∷ [])

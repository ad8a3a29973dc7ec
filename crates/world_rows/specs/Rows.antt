-- The rows of a world: what is reported of it.
use Rattle.std.specs.Prelude.{ℕ, Bool, cond, ◌&&◌, ◌==◌, nat_lt, List, [], ◌∷◌, ◌++◌, map, length, flat_map}
use Rattle.std.specs.List.{list_any}
use Rattle.protocol.specs.Words.{Key, same_key, key_before}
use Rattle.txn_lang.specs.Keys.{held}
use Rattle.report.specs.declared.rows.Left.{Left}
use Rattle.report.specs.declared.rows.Left.TheVariants.{Live, Aborted, Unbegun}
use Rattle.report.specs.declared.rows.CommitRow.{CommitRow}
use Rattle.report.specs.declared.rows.LeftRow.{LeftRow}
use Rattle.report.specs.declared.rows.ValueRow.{ValueRow}
use Rattle.report.specs.declared.rows.Rows.{Rows}
use Rattle.protocol.specs.Lists.{upto}
use Rattle.protocol.specs.declared.Fate.{Fate}
use Rattle.protocol.specs.declared.Fate.TheVariants as fate
use Rattle.protocol.specs.Client.State.{ClientState}
use Rattle.protocol.specs.World.State.{World, rules}
use Rattle.protocol.specs.World.Committed.{CommittedExec, committed_executions}
use Rattle.protocol_plans.specs.Scripted.{Scripted, plan_of}
use Rattle.world_rows.specs.Machine.{events_in}
use Rattle.protocol_plans.specs.SerialOutcome.{first_map, map_of}

-- a committed execution, with what it read and printed
abbrev pub commit_row : CommittedExec → CommitRow
commit_row c = record {
  exec = c.exec;
  txn = c.txn;
  attempt = c.try;
  ending = c.content.ending;
  reads = c.content.reads;
  out = c.content.out;
}

-- some execution of transaction n of client c is committed
abbrev pub has_commit : List CommittedExec → ℕ → ℕ → Bool
has_commit cs c n = list_any (λ d. d.exec.ver.client == c && d.txn == n) cs

abbrev pub left_by : Fate → Left
left_by fate.Aborted = Aborted
left_by _ = Live

-- what became of transaction n, of which nothing is committed: none of its tries began; its last try is aborted, and a
-- client goes on to the next transaction only then; else that try is open
abbrev pub left_of : ClientState → ℕ → Left
left_of c n = cond (nat_lt c.begun n) Unbegun (cond (n == c.begun) (left_by c.fate) Aborted)

abbrev pub left_row : World → List CommittedExec → ℕ → ℕ → List LeftRow
left_row w cs c n = cond (has_commit cs c n) [] (record { client = c; txn = n; state = left_of (w.client c) n } ∷ [])

-- the transactions without a committed execution, by client and number
abbrev pub left_rows : Scripted → World → List CommittedExec → List LeftRow
left_rows s w cs = flat_map (λ c. flat_map (left_row w cs c) (upto (length (rules (plan_of s) c).txns))) (upto (length s.clients))

-- keys stand in rising order, each once
abbrev pub put_key : Key → List Key → List Key
put_key k [] = k ∷ []
put_key k (l ∷ ls) = cond (key_before k l) (k ∷ l ∷ ls) (cond (same_key k l) (l ∷ ls) (l ∷ put_key k ls))

abbrev pub sorted_keys : List Key → List Key
sorted_keys [] = []
sorted_keys (k ∷ ks) = put_key k (sorted_keys ks)

-- the keys with a first value or a committed write
abbrev pub keys_of : Scripted → List CommittedExec → List Key
keys_of s cs = map (λ f. f.key) s.firsts ++ flat_map (λ c. map (λ w. w.key) c.content.writes) cs

-- each of them with its last committed write by rising version, or else its first value
abbrev pub value_rows : Scripted → List CommittedExec → List ValueRow
value_rows s cs = map (λ k. record { key = k; value = held (map_of (first_map s.firsts) cs) k }) (sorted_keys (keys_of s cs))

-- all that is reported of a world of the script
unfoldable pub rows_of : Scripted → World → Rows
rows_of s w =
    let cs = committed_executions (plan_of s) w in
    record {
      commits = map commit_row cs;
      left = left_rows s w cs;
      values = value_rows s cs;
      events = events_in w;
    }

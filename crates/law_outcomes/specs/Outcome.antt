-- What holds of every run at each moment, whatever happened in it: the four parts of the headline.
use Rattle.std.specs.Prelude.{◌≡◌, ◌≢◌, ◌<◌, List, ◌++◌, Some}
use Rattle.protocol.specs.Words.{Version, Exec, NodeId, Abandon, ToCommit, BaseEntry, Drops, Event}
use Rattle.txn_lang.specs.Keys.{held}
use Rattle.txn_lang.specs.Program.{last_map}
use Rattle.report.specs.declared.rows.ValueRow.{ValueRow}
use Rattle.protocol.specs.Lists.{IsIn}
use Rattle.protocol.specs.Client.State.{Attempt}
use Rattle.protocol.specs.World.State.{World, first_world}
use Rattle.protocol.specs.World.Events.{replay_from}
use Rattle.protocol.specs.World.Decided.{decided_by, UpTo, WasSent, Committed, IsOf}
use Rattle.protocol.specs.World.Committed.{committed_executions}
use Rattle.protocol_plans.specs.Scripted.{Scripted, plan_of}
use Rattle.protocol_plans.specs.SerialOutcome.{first_map, programs_of, IsSerial, IsBaseAt}
use Rattle.world_rows.specs.Rows.{rows_of}

-- no two nodes decide an execution differently; at most one execution of a transaction is committed; the committed
-- executions by rising version did what the serial run of their programs does, and each value that is reported is that
-- of the map which this run leaves; and each Drop that was sent carries the base of the world at its version
pub record IsCorrect (s : Scripted) (w : World) : Type 0 where
  pub agreed : (x : Exec) (a b : NodeId) → decided_by w a x ≡ Some Abandon → decided_by w b x ≢ Some ToCommit
  pub once : (x y : Exec) (a b : Attempt) → Committed w x → Committed w y → IsOf w x a → IsOf w y b →
      x.ver.client ≡ y.ver.client → a.txn ≡ b.txn → x ≡ y
  pub serial : IsSerial s (committed_executions (plan_of s) w)
  pub values : (v : ValueRow) → IsIn v (rows_of s w).values →
      v.value ≡ held (last_map (first_map s.firsts) (programs_of s (committed_executions (plan_of s) w))) v.key
  pub based : (v : Version) (bs : List BaseEntry) → WasSent w (Drops v bs) → IsBaseAt s w v bs

-- in the world w' after w, nothing at or below the version of a Drop that was sent in w is committed that was not in w
abbrev pub IsSettled : World → World → Type 0
IsSettled w w' = (v : Version) (bs : List BaseEntry) (x : Exec) → WasSent w (Drops v bs) → UpTo x.ver v → Committed w' x → Committed w x

-- after these events, and after each first part of them, the world is correct, and what a Drop settled stays so
pub record IsCorrectThroughout (s : Scripted) (events : List Event) : Type 0 where
  pub correct : (first rest : List Event) → events ≡ first ++ rest → IsCorrect s (replay_from (plan_of s) first_world first)
  pub settled : (first more rest : List Event) → events ≡ (first ++ more) ++ rest →
      IsSettled (replay_from (plan_of s) first_world first) (replay_from (plan_of s) first_world (first ++ more))

abbrev pub OutcomesAreCorrect : Type 0
OutcomesAreCorrect = (s : Scripted) → 0 < s.replicas → (events : List Event) → IsCorrectThroughout s events

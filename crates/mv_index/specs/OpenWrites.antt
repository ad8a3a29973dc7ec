-- When the tables of the records stand for the envelopes that a replica took.
use Rattle.std.specs.Prelude.{◌≡◌, cond, None}
use Rattle.protocol.specs.Words.{Version, Exec, Key, before}
use Rattle.protocol.specs.Replica.Taken.{Handled, dropped}
use Rattle.protocol.specs.Replica.Held.{kept_put}
use Rattle.mv_index.specs.WriteIndex.{held_at}
use Rattle.mv_index.specs.PutTable.{put_at}
use Rattle.mv_index.specs.HeldByExec.{open_by}
use Rattle.mv_index.specs.declared.write_index.WriteIndex.{WriteIndex}
use Rattle.mv_index.specs.declared.put_table.PutTable.{PutTable}

-- the kept Puts, and the index of what they hold
pub record KeepsOpen (h : Handled) (puts : PutTable) (held : WriteIndex) : Type 0 where
  pub puts_are : (v : Version) → put_at puts v ≡ cond (before (dropped h) v) (kept_put h v) None
  pub held_are : (k : Key) (x : Exec) → held_at held k x ≡ open_by h k x

-- When records stand for the envelopes that a replica took.
use Rattle.std.specs.Prelude.{◌≡◌, ℕ, cond, ◌&&◌, None, List}
use Rattle.protocol.specs.Words.{Version, Exec, Key, before}
use Rattle.protocol.specs.declared.First2.{First2}
use Rattle.protocol.specs.Replica.Taken.{Handled, dropped, base}
use Rattle.protocol.specs.Replica.Held.{first_held}
use Rattle.mv_index.specs.HeldByExec.{committed_content, is_blocked}
use Rattle.mv_index.specs.Meanings.{first_in, dropped_in, base_in, blocks_in, committed_in, FindsCommitted, OpenAre}
use Rattle.mv_index.specs.declared.holdings.Holdings.{Holdings}

-- each part is what the definitions read from h, of what is above the dropped version
pub record StandsFor (firsts : List First2) (h : Handled) (r : Holdings) : Type 0 where
  pub firsts_are : (k : Key) → first_in r k ≡ first_held firsts k
  pub dropped_is : dropped_in r ≡ dropped h
  pub base_is : base_in r ≡ base h
  pub blocked_are : (v : Version) (n : ℕ) → blocks_in r v n ≡ (before (dropped h) v && is_blocked h v n)
  pub commits_are : (x : Exec) → committed_in r x ≡ cond (before (dropped h) x.ver) (committed_content h x) None
  pub commits_indexed : FindsCommitted r
  pub open_are : OpenAre h r

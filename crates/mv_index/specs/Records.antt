-- When records stand for the envelopes that a replica took, and what their readers were told.
use Rattle.std.specs.Prelude.{◌≡◌, true, false, cond, List, map, filter, Some, None}
use Rattle.std.specs.List.{list_any}
use Rattle.protocol.specs.Words.{Version, Exec, before, same_key}
use Rattle.protocol.specs.declared.First2.{First2}
use Rattle.protocol.specs.Lists.{IsIn}
use Rattle.protocol.specs.Replica.Taken.{Handled, dropped}
use Rattle.protocol.specs.Replica.Held.{latest}
use Rattle.protocol.specs.Replica.Readers.{readers}
use Rattle.mv_index.specs.declared.reader_list.Reader.{Reader}
use Rattle.mv_index.specs.ReaderList.{reader_of}
use Rattle.mv_index.specs.Holdings.{StandsFor as HoldingsStandFor}
use Rattle.mv_index.specs.KeyList.{AreRising}
use Rattle.mv_index.specs.Clash.{voted_content}
pub use Rattle.mv_index.specs.RecordMeanings.{holdings_of, voted_in, FindsVoted, readers_of, reader_keys_of, changed_keys_of, listed, low_of, is_broken}
use Rattle.mv_index.specs.declared.records.Records.{Records}

-- the earlier of two versions
abbrev pub earlier : Version → Version → Version
earlier a b = cond (before b a) b a

-- the reader's mark is what it sees after h
abbrev pub IsTold : List First2 → Handled → Reader → Type 0
IsTold firsts h p = p.told ≡ Some (latest firsts h p.key p.ver)

-- each part is what the definitions read from h; a reader of a key that is not listed was told what it sees, and so was
-- one below the least version of which something changed
pub record StandsFor (firsts : List First2) (h : Handled) (r : Records) : Type 0 where
  pub holdings : HoldingsStandFor firsts h (holdings_of r)
  pub voted : (x : Exec) → voted_in r x ≡ cond (before (dropped h) x.ver) (voted_content h x) None
  pub voted_indexed : FindsVoted r
  pub readers_are : map reader_of (readers_of r) ≡ filter (λ p. before (dropped h) p.ver) (readers h)
  pub keys_rise : AreRising (reader_keys_of r)
  pub keys_have : (p : Reader) → IsIn p (readers_of r) → list_any (same_key p.key) (reader_keys_of r) ≡ true
  pub touched_rise : AreRising (changed_keys_of r)
  pub quiet : (p : Reader) → IsIn p (readers_of r) → list_any (same_key p.key) (listed r) ≡ false → IsTold firsts h p
  pub below : (p : Reader) → IsIn p (readers_of r) → before p.ver (low_of r) ≡ true → IsTold firsts h p
  pub whole : is_broken r ≡ false

-- each reader was told what it saw after h
pub record WereTold (firsts : List First2) (h : Handled) (r : Records) : Type 0 where
  pub each : (p : Reader) → IsIn p (readers_of r) → IsTold firsts h p

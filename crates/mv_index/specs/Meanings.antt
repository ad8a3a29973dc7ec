-- What holdings tell, each part by a name of its own; how they keep it is said here alone.
use Rattle.std.specs.Prelude.{ℕ, Bool, List, Option}
use Rattle.protocol.specs.Words.{Version, Exec, Key, BaseEntry, Content}
use Rattle.protocol.specs.declared.Held.{Held}
use Rattle.protocol.specs.Replica.Taken.{Handled}
use Rattle.mv_index.specs.FirstValues.{value_at, first_of}
use Rattle.mv_index.specs.AbandonTable.{is_blocked_at}
use Rattle.mv_index.specs.ContentTable.{content_at, IsIndexed}
use Rattle.mv_index.specs.OpenWrites.{KeepsOpen}
use Rattle.mv_index.specs.declared.holdings.Holdings.{Holdings}

-- the first value of k
abbrev pub first_in : Holdings → Key → Held
first_in r k = first_of (value_at r.firsts k)

abbrev pub dropped_in : Holdings → Version
dropped_in r = r.dropped

abbrev pub base_in : Holdings → List BaseEntry
base_in r = r.base

-- whether an execution of version v with the number n or a greater one was abandoned
abbrev pub blocks_in : Holdings → Version → ℕ → Bool
blocks_in r v n = is_blocked_at r.abandoned v n

-- the content that x was committed with
abbrev pub committed_in : Holdings → Exec → Option Content
committed_in r x = content_at r.commits x

-- the indexes of committed contents are those of the contents
abbrev pub FindsCommitted : Holdings → Type 0
FindsCommitted r = IsIndexed r.commits

-- the kept Puts of each version, and what each execution holds by them
abbrev pub OpenAre : Handled → Holdings → Type 0
OpenAre h r = KeepsOpen h r.puts r.unsure

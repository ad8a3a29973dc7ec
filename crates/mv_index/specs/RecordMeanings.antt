-- What records tell, each part by a name of its own; how they keep it is said here alone.
use Rattle.std.specs.Prelude.{Bool, cond, List, Option}
use Rattle.protocol.specs.Words.{Version, Exec, Key, Content}
use Rattle.mv_index.specs.declared.reader_list.Reader.{Reader}
use Rattle.mv_index.specs.declared.holdings.Holdings.{Holdings}
use Rattle.mv_index.specs.ContentTable.{content_at, IsIndexed}
use Rattle.mv_index.specs.declared.records.Records.{Records}

-- what is held of each key
abbrev pub holdings_of : Records → Holdings
holdings_of r = r.holdings

-- the content that x has a Commit vote with, while it is undecided
abbrev pub voted_in : Records → Exec → Option Content
voted_in r x = content_at r.voted x

-- the indexes of these contents are those of the contents
abbrev pub FindsVoted : Records → Type 0
FindsVoted r = IsIndexed r.voted

-- the readers with their marks, in rising order of key and version
abbrev pub readers_of : Records → List Reader
readers_of r = r.readers.readers.items

-- the keys that have a reader, and those that changed
abbrev pub reader_keys_of : Records → List Key
reader_keys_of r = r.reader_keys.keys.items

abbrev pub changed_keys_of : Records → List Key
changed_keys_of r = r.touched.keys.items

-- the keys that may have changed: once all may have, each key with a reader
abbrev pub listed : Records → List Key
listed r = cond r.all_touched (reader_keys_of r) (changed_keys_of r)

-- the least version of which something changed
abbrev pub low_of : Records → Version
low_of r = r.low

-- a call was refused half way: each later call that can refuse does
abbrev pub is_broken : Records → Bool
is_broken r = r.broken

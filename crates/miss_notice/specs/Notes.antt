-- The Notes that readers are due, reader by reader and key by key.
use Rattle.std.specs.Prelude.{ℕ, flat_map, List, filter}
use Rattle.protocol.specs.Words.{Key, Envelope, same_key}
use Rattle.protocol.specs.Replica.Taken.{Handled}
use Rattle.protocol.specs.Replica.Readers.{note_for}
use Rattle.protocol.specs.declared.First2.{First2}
use Rattle.mv_index.specs.ReaderList.{reader_of}
use Rattle.mv_index.specs.declared.reader_list.Reader.{Reader}

-- the Notes that a reader is due
abbrev pub notes_by : List First2 → Handled → Handled → ℕ → Reader → List Envelope
notes_by firsts h h' number p = note_for firsts h h' number (reader_of p)

-- the Notes of the readers of one key
abbrev pub notes_at : (Reader → List Envelope) → List Reader → Key → List Envelope
notes_at f rs k = flat_map f (filter (λ p. same_key k p.key) rs)

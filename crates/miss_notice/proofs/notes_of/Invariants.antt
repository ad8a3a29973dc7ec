use Rattle.std.proofs.Common.{◌≡◌, ◌++◌, List, map, take}
use Rattle.std.specs.Prelude.{filter, flat_map, ℕ}
use Rattle.protocol.specs.declared.First2.{First2}
use Rattle.protocol.specs.Replica.Taken.{Handled}
use Rattle.mv_index.proofs.Keyed.{reads_from}
use Rattle.mv_index.specs.Records.{StandsFor, WereTold, low_of}
use Rattle.miss_notice.specs.Envelope2.{sent_by}
use Rattle.miss_notice.specs.Notes.{notes_by}
use Rattle.miss_notice.proofs.notes_of.Given as goal

abbrev pub invariant-loop-reader : goal.invariant-loop-reader
invariant-loop-reader l = (firsts : List First2) (h h' : Handled) (number : ℕ) → StandsFor firsts h' l.fn.rec → WereTold firsts h l.fn.rec →
    map (sent_by number) l.out ≡ map (sent_by number) l.fn.out
    ++ flat_map (notes_by firsts h h' number) (take l.reader-index (filter (reads_from l.fn.key (low_of l.fn.rec)) l.fn.rec.readers.readers.items))

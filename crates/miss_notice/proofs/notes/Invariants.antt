use Rattle.std.proofs.Common.{◌≡◌, List, map, take}
use Rattle.std.specs.Prelude.{flat_map, ℕ}
use Rattle.protocol.specs.declared.First2.{First2}
use Rattle.protocol.specs.Replica.Taken.{Handled}
use Rattle.mv_index.specs.Records.{StandsFor, WereTold, listed}
use Rattle.miss_notice.specs.Envelope2.{sent_by}
use Rattle.miss_notice.specs.Notes.{notes_by, notes_at}
use Rattle.miss_notice.proofs.notes.Given as goal

abbrev pub invariant-loop-i : goal.invariant-loop-i
invariant-loop-i l = (firsts : List First2) (h h' : Handled) (number : ℕ) → StandsFor firsts h' l.fn.rec → WereTold firsts h l.fn.rec →
    map (sent_by number) l.out ≡ flat_map (notes_at (notes_by firsts h h' number) l.fn.rec.readers.readers.items) (take l.i (listed l.fn.rec))

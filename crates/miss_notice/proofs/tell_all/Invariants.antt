use Rattle.std.proofs.Common.{List, drop}
use Rattle.protocol.specs.declared.First2.{First2}
use Rattle.protocol.specs.Replica.Taken.{Handled}
use Rattle.mv_index.specs.Records.{StandsFor, readers_of}
use Rattle.miss_notice.specs.Marks.{AreLeft}
use Rattle.miss_notice.proofs.tell_all.Given as goal

abbrev pub invariant-loop-note : goal.invariant-loop-note
invariant-loop-note l = ((firsts : List First2) (h : Handled) → StandsFor firsts h l.fn.rec → StandsFor firsts h l.rec)
    × ((firsts : List First2) (h : Handled) → StandsFor firsts h l.fn.rec → AreLeft firsts h l.notes (readers_of l.fn.rec) →
    AreLeft firsts h (drop l.note-index l.notes) (readers_of l.rec))

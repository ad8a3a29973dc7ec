-- How reads take their next labels.
use Rattle.std.specs.Prelude.{ℕ, zero, suc, cond, List, [], ◌∷◌, Option, Some, None, option_map}
use Rattle.protocol.specs.declared.Held.{Held}
use Rattle.protocol.specs.Client.Deciding.{has_other_value}
use Rattle.exec_log.specs.declared.read.LogRead.{LogRead}
use Rattle.exec_log.specs.Log.{labelled_read, labelled}
use Rattle.coordinator.specs.Answers.{held_of}

-- the place of the first read whose value changes
abbrev pub first_other : List LogRead → List (Option Held) → Option ℕ
first_other [] nexts = None
first_other (r ∷ reads) [] = None
first_other (r ∷ reads) (h ∷ nexts) = cond (has_other_value (held_of r) h) (Some 0) (option_map suc (first_other reads nexts))

-- the read at a place takes this label, if it is one
abbrev pub labelled_by : Option Held → List LogRead → ℕ → List LogRead
labelled_by None reads i = reads
labelled_by (Some h) reads i = labelled reads i h.wid h.sure

-- a read that takes the label of its next one, and keeps its value
abbrev pub moved_read : LogRead → Option Held → LogRead
moved_read r None = r
moved_read r (Some h) = labelled_read r.key h.wid r.value h.sure

-- the first so many reads take their next labels
abbrev pub moved_before : ℕ → List LogRead → List (Option Held) → List LogRead
moved_before zero reads nexts = reads
moved_before (suc n) [] nexts = []
moved_before (suc n) (r ∷ reads) [] = r ∷ reads
moved_before (suc n) (r ∷ reads) (h ∷ nexts) = moved_read r h ∷ moved_before n reads nexts

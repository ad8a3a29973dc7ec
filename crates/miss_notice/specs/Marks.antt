-- What a Note tells its reader.
use Rattle.std.specs.Prelude.{◌≡◌, ◌⊎◌, Bool, true, false, ◌&&◌, List, Option, Some, None}
use Rattle.std.specs.List.{list_any}
use Rattle.protocol.specs.Words.{Body, Note, same_key, same_version}
use Rattle.protocol.specs.declared.First2.{First2}
use Rattle.protocol.specs.Lists.{IsIn}
use Rattle.protocol.specs.Replica.Taken.{Handled}
use Rattle.protocol.specs.Replica.Held.{latest}
use Rattle.mv_index.specs.declared.reader_list.Reader.{Reader}
use Rattle.mv_index.specs.ReaderList.{told_at}
use Rattle.mv_index.specs.Records.{IsTold}
use Rattle.miss_notice.specs.declared.Envelope2.{Envelope2}
use Rattle.miss_notice.specs.declared.Mark.{Mark}

-- the mark in a Note
abbrev pub mark_in : Body → Option Mark
mark_in (Note v k w x s g) = Some (record { key = k; ver = v; held = record { wid = w; value = x; sure = s } })
mark_in _ = None

-- the reader of a mark was told it
abbrev pub marked_by : Option Mark → Reader → Reader
marked_by None r = r
marked_by (Some m) r = told_at m.key m.ver m.held r

-- it is a mark of this reader
abbrev pub is_mark_of : Reader → Option Mark → Bool
is_mark_of r None = false
is_mark_of r (Some m) = same_key m.key r.key && same_version m.ver r.ver

-- some of the Notes goes to this reader
abbrev pub has_note : Reader → List Envelope2 → Bool
has_note r notes = list_any (λ n. is_mark_of r (mark_in n.body)) notes

-- the mark is what its reader sees after h
abbrev pub IsSeen : List First2 → Handled → Option Mark → Type 0
IsSeen firsts h None = Unit {0}
IsSeen firsts h (Some m) = m.held ≡ latest firsts h m.key m.ver

-- the Notes that are left tell what their readers see, and all other readers were told it
pub record AreLeft (firsts : List First2) (h : Handled) (notes : List Envelope2) (rs : List Reader) : Type 0 where
  pub seen : (n : Envelope2) → IsIn n notes → IsSeen firsts h (mark_in n.body)
  pub told : (p : Reader) → IsIn p rs → IsTold firsts h p ⊎ (has_note p notes ≡ true)

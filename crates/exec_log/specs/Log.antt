-- What contracts see of a log.
use Rattle.std.specs.Prelude.{ℕ, List, [], ◌∷◌, ◌++◌, map, take, Bool, false, Option, Some, None, slice_get, slice_set, ℤ}
use Rattle.morty_base.specs.declared.names.Key.{Key}
use Rattle.morty_base.specs.declared.names.Wid.{Wid}
use Rattle.morty_base.specs.declared.names.Ending.{Ending}
use Rattle.msg.specs.declared.Write.{Write}
use Rattle.continuation.specs.declared.segment.Next.{Next}
use Rattle.continuation.specs.declared.segment.Next.TheVariants.{Asks, Ends}
use Rattle.exec_log.specs.declared.read.LogRead.{LogRead}
use Rattle.exec_log.specs.declared.read.Place.{Place}

-- the answered reads, and the place at each; what the segments taken wrote and printed; how the last of them stopped,
-- where no job is pending; and whether memory ran out in a call that changed the log
pub record Log : Type 0 where
  pub reads : List LogRead
  pub places : List Place
  pub writes : List Write
  pub out : List ℤ
  pub next : Option Next
  pub broken : Bool

abbrev pub fresh_log : Log
fresh_log = record { reads = []; places = []; writes = []; out = []; next = None; broken = false }

abbrev pub answers_in : List LogRead → List ℤ
answers_in reads = map (λ r. r.value) reads

-- the answers to the reads
abbrev pub answers_of : Log → List ℤ
answers_of l = answers_in l.reads

-- the question that stands
abbrev pub asked_by : Option Next → Option Key
asked_by (Some (Asks k cont)) = Some k
asked_by (Some (Ends how)) = None
asked_by None = None

abbrev pub ending_by : Option Next → Option Ending
ending_by (Some (Ends how)) = Some how
ending_by (Some (Asks k cont)) = None
ending_by None = None

abbrev pub labelled_read : Key → Wid → ℤ → Bool → LogRead
labelled_read key wid value sure = record { key = key; wid = wid; value = value; sure = sure }

abbrev pub labelled_at : Option LogRead → List LogRead → ℕ → Wid → Bool → List LogRead
labelled_at None reads i wid sure = reads
labelled_at (Some r) reads i wid sure = slice_set reads i (labelled_read r.key wid r.value sure)

-- one read has another label
abbrev pub labelled : List LogRead → ℕ → Wid → Bool → List LogRead
labelled reads i wid sure = labelled_at (slice_get reads i) reads i wid sure

abbrev pub cut_at : Option LogRead → List LogRead → ℕ → Wid → ℤ → Bool → List LogRead
cut_at None reads i wid value sure = reads
cut_at (Some r) reads i wid value sure = take i reads ++ labelled_read r.key wid value sure ∷ []

-- the reads before one, and that one with another answer
abbrev pub answered_at : List LogRead → ℕ → Wid → ℤ → Bool → List LogRead
answered_at reads i wid value sure = cut_at (slice_get reads i) reads i wid value sure

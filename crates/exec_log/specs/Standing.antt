-- For which programs and answers a log stands.
use Rattle.std.specs.Prelude.{◌≡◌, ℕ, List, [], ◌∷◌, ◌++◌, map, take, length, Option, Some, None, slice_get, ◌⊎◌, ℤ}
use Rattle.morty_base.specs.declared.names.Key.{Key}
use Rattle.msg.specs.declared.Content.{Content}
use Rattle.txn_lang.specs.Program.{Program, replay_of}
use Rattle.txn_lang.specs.Runs.{Run, kept}
use Rattle.flat_code.specs.Operation.{Flat}
use Rattle.continuation.specs.declared.segment.JobAt.{JobAt}
use Rattle.continuation.specs.declared.segment.JobAt.TheVariants.{Start, From}
use Rattle.continuation.specs.declared.segment.Next.{Next}
use Rattle.continuation.specs.declared.segment.Seg.{Seg}
use Rattle.continuation.specs.Place as place
use Rattle.continuation.specs.Place.{StandsAt}
use Rattle.continuation.specs.Segment.{StopsAs, IsFirst, IsSuffix}
use Rattle.exec_log.specs.declared.read.LogRead.{LogRead}
use Rattle.exec_log.specs.declared.read.Place.{Place}
use Rattle.exec_log.specs.Entries.{write_entries, content_entry, write_entry}
use Rattle.exec_log.specs.Knowledge.{IsRising}
use Rattle.exec_log.specs.Log.{Log, answers_in, answers_of}

-- the read is the one that the program asks on these answers, the place is at it, and what was done before is counted
pub record IsReadOf (code : Flat) (p : Program) (answers : List ℤ) (r : LogRead) (m : Place) : Type 0 where
  pub at : StandsAt code p answers r.key m.cont
  pub wrote : m.wrote ≡ length (replay_of p answers).writes
  pub printed : m.printed ≡ length (replay_of p answers).out

-- each read is the one that the program asks on the answers before it
pub record AreReadsOf (code : Flat) (p : Program) (reads : List LogRead) (places : List Place) : Type 0 where
  pub even : length places ≡ length reads
  pub each : (i : ℕ) (r : LogRead) (m : Place) → slice_get reads i ≡ Some r → slice_get places i ≡ Some m →
      IsReadOf code p (take i (answers_in reads)) r m

-- what the segments taken did is what the program does on these answers
pub record HasDone (p : Program) (answers : List ℤ) (l : Log) : Type 0 where
  pub writes : write_entries l.writes ≡ (replay_of p answers).writes
  pub out : l.out ≡ (replay_of p answers).out

-- no segment was taken
pub record IsUnbegun (l : Log) : Type 0 where
  pub reads : l.reads ≡ []
  pub writes : l.writes ≡ []
  pub out : l.out ≡ []

-- the segment that follows the last answer is still to come
pub record IsResumed (p : Program) (l : Log) : Type 0 where
  pub front : List ℤ
  pub value : ℤ
  pub answers : answers_of l ≡ front ++ value ∷ []
  pub done : HasDone p front l

-- while a job is pending its segment is to come; then the program does this on all answers
abbrev pub StopsBy : Flat → Program → Log → Option Next → Type 0
StopsBy code p l None = IsUnbegun l ⊎ IsResumed p l
StopsBy code p l (Some n) = HasDone p (answers_of l) l × StopsAs code p (answers_of l) n

-- a log stands for a program, whose code this is, and for the answers to its reads
pub record StandsFor (code : Flat) (p : Program) (l : Log) : Type 0 where
  pub reads : AreReadsOf code p l.reads l.places
  pub stops : StopsBy code p l l.next

-- the segment is the run of the last job: from the start, or from the last answer
abbrev pub IsLastRun : Flat → Program → Log → Seg → Type 0
IsLastRun code p l seg =
    ((l.reads ≡ []) × IsFirst code p seg)
    ⊎ ((front : List ℤ) × (value : ℤ) × (answers_of l ≡ front ++ value ∷ []) × IsSuffix code p front value seg)

abbrev pub question : Program → List ℤ → Key → place.Question
question p answers key = record { program = p; answers = answers; key = key }

-- a job that goes on just after the read that the program asks on these answers, with this answer
abbrev pub GoesOnAt : Flat → Program → List ℤ → ℤ → JobAt → Type 0
GoesOnAt code p answers value Start = ⊥
GoesOnAt code p answers value (From cont given known) =
    (given ≡ value) × IsRising known × ((key : Key) × place.StandsFor code (question p answers key) cont known)

-- the job is the last one of the log: from the start, or from the last answer
abbrev pub IsLastJob : Flat → Program → Log → JobAt → Type 0
IsLastJob code p l Start = l.reads ≡ []
IsLastJob code p l (From cont given known) =
    (front : List ℤ) × (value : ℤ) × (answers_of l ≡ front ++ value ∷ []) × GoesOnAt code p front value (From cont given known)

-- a content of what a run did
pub record IsContentOf (r : Run) (c : Content) : Type 0 where
  pub reads : map content_entry c.reads ≡ r.reads
  pub writes : map write_entry c.writes ≡ kept r
  pub out : c.out ≡ r.out
  pub ending : r.ending ≡ Some c.ending

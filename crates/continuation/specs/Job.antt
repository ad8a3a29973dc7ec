-- What a job's run is, on the code of any program for which the job stands.
use Rattle.std.specs.Prelude.{◌≡◌, ℕ, ◌+◌, ◌≤◌, List, [], ◌∷◌, ◌++◌, Some, slice_get}
use Rattle.txn_lang.specs.Program.{Program, replay_of}
use Rattle.flat_code.specs.Operation.{Flat}
use Rattle.flat_code.specs.Does.{IsCodeOf}
use Rattle.continuation.specs.declared.segment.Job.{Job}
use Rattle.continuation.specs.declared.segment.JobAt.{JobAt}
use Rattle.continuation.specs.declared.segment.JobAt.TheVariants.{Start, From}
use Rattle.continuation.specs.declared.segment.Seg.{Seg}
use Rattle.continuation.specs.Place.{Question, StandsFor}
use Rattle.continuation.specs.Segment.{IsFirst, IsSuffix}

-- the segment is the run from there on this code
abbrev pub IsJobRun : Flat → JobAt → Seg → Type 0
IsJobRun code Start seg = (p : Program) → IsCodeOf code p → IsFirst code p seg
IsJobRun code (From cont value known) seg = (q : Question) → StandsFor code q cont known → IsSuffix code q.program q.answers value seg

-- a run from there begins statements by which a count rises from the old to the new number, or more
abbrev pub CountsAtMost : Flat → JobAt → ℕ → ℕ → Type 0
CountsAtMost code Start old new = (p : Program) → IsCodeOf code p → new ≤ old + (replay_of p []).begun
CountsAtMost code (From cont value known) old new = (q : Question) → StandsFor code q cont known →
    (replay_of q.program q.answers).begun + new ≤ old + (replay_of q.program (q.answers ++ value ∷ [])).begun

-- the place is one of the program whose code this is
abbrev pub FitsCode : Flat → JobAt → Type 0
FitsCode code Start = (p : Program) × IsCodeOf code p
FitsCode code (From cont value known) = (q : Question) × IsCodeOf code q.program × StandsFor code q cont known

-- the job names a code of this list, and its place is one of that code's program
pub record FitsCodes (codes : List Flat) (job : Job) : Type 0 where
  pub code : Flat
  pub there : slice_get codes job.prog ≡ Some code
  pub fits : FitsCode code job.at

-- a job with its run, and the code on which it ran
pub record Finished : Type 0 where
  pub job : Job
  pub seg : Seg
  pub code : Flat

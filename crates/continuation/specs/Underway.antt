-- A segment under way: what it did, and what it has to do.
use Rattle.std.specs.Prelude.{◌≡◌, ℕ, ◌+◌, ◌≤◌, List, [], ◌++◌, reverse, Option, Some, None, ℤ}
use Rattle.txn_lang.specs.Keys.{Entry}
use Rattle.txn_lang.specs.Actions.{Actions}
use Rattle.txn_lang.specs.Runs.{Run, run, next_answer}
use Rattle.txn_lang.specs.Laws.{joined}
use Rattle.flat_code.specs.declared.code.TheConstants.{MOST_OPERATIONS}
use Rattle.flat_code.specs.declared.frame.Frame.{Frame}
use Rattle.flat_code.specs.Operation.{Flat}
use Rattle.flat_code.specs.Does.{DoesFrom}
use Rattle.continuation.specs.declared.segment.Next as next
use Rattle.continuation.specs.declared.segment.Next.{Next}
use Rattle.continuation.specs.declared.segment.Seg.{Seg}
use Rattle.continuation.specs.declared.running.Running.{Running}
use Rattle.continuation.specs.declared.running.Stop.{Stop}
use Rattle.continuation.specs.declared.running.Stop.TheVariants.{Asks, Ends}
use Rattle.continuation.specs.Reaching.{place_within}
use Rattle.continuation.specs.Place.{cont_of}
use Rattle.continuation.specs.Segment.{IsSegment}

-- what a segment did so far
pub record SoFar : Type 0 where
  pub wrote : List Entry
  pub printed : List ℤ
  pub ran : ℕ

abbrev pub did : Running → SoFar
did r = record { wrote = r.wrote; printed = r.printed; ran = r.ran }

abbrev pub run_so_far : SoFar → Run
run_so_far d = record { reads = []; writes = d.wrote; out = d.printed; begun = d.ran; asks = None; ending = None; known = [] }

-- what is known once the segment wrote this
abbrev pub known_now : List Entry → SoFar → List Entry
known_now known d = reverse d.wrote ++ known

-- after i operations a segment of the actions `a` is at this place: it has `rest` to do and, whatever answers are left,
-- the whole run is what it did and then the run of the rest
pub record Underway (code : Flat) (i : ℕ) (f : Frame) (d : SoFar) (a : Actions) (known : List Entry) : Type 0 where
  pub left : ℕ
  pub few : left + i ≤ MOST_OPERATIONS
  pub rest : Actions
  pub does : DoesFrom code left f rest
  pub same : (answers : List ℤ) →
      run next_answer a known answers ≡ joined (run_so_far d) (run next_answer rest (known_now known d) answers)

-- and from where the segment began the code goes on as it does from this place
pub record Reaches (code : Flat) (start : Frame) (i : ℕ) (f : Frame) (d : SoFar) (a : Actions) (known : List Entry) : Type 0 where
  pub under : Underway code i f d a known
  pub comes : (n : ℕ) (answers : List ℤ) → place_within code (n + i) start known answers ≡ place_within code n f (known_now known d) answers

abbrev pub IsUnderway : Flat → Frame → ℕ → Running → Actions → List Entry → Type 0
IsUnderway code start i r a known = Reaches code start i r.at (did r) a known

abbrev pub next_of : Frame → Stop → Next
next_of f (Asks k) = next.TheVariants.Asks k (cont_of f)
next_of f (Ends how) = next.TheVariants.Ends how

-- the segment, where it stops there
abbrev pub seg_of : Running → Stop → Seg
seg_of r stop = record { next = next_of r.at stop; wrote = r.wrote; printed = r.printed; ran = r.ran }

-- after one more operation the segment is under way, or it has stopped
abbrev pub IsNext : Flat → Frame → ℕ → Running → Actions → List Entry → Option Stop → Type 0
IsNext code start i r a known None = IsUnderway code start (i + 1) r a known
IsNext code start i r a known (Some stop) = IsSegment code start a known (seg_of r stop)

-- What segments are: the first one of a program, and the one that follows an answer.
use Rattle.std.specs.Prelude.{◌≡◌, ◌+◌, List, [], ◌∷◌, ◌++◌, Some, ℤ}
use Rattle.morty_base.specs.declared.names.Key.{Key}
use Rattle.txn_lang.specs.Keys.{Entry}
use Rattle.txn_lang.specs.Actions.{Actions}
use Rattle.txn_lang.specs.Program.{Program, replay_of}
use Rattle.txn_lang.specs.Runs.{Run, run, next_answer}
use Rattle.txn_lang.specs.Laws.{GoesOn}
use Rattle.flat_code.specs.declared.frame.Frame.{Frame}
use Rattle.flat_code.specs.Operation.{Flat}
use Rattle.flat_code.specs.Does.{Awaits}
use Rattle.continuation.specs.declared.segment.Next.{Next}
use Rattle.continuation.specs.declared.segment.Next.TheVariants.{Asks, Ends}
use Rattle.continuation.specs.declared.segment.Seg.{Seg}
use Rattle.continuation.specs.Reaching.{ComesTo}
use Rattle.continuation.specs.Place.{frame_of, StandsAt}

-- the run of these actions alone, where these entries are known and no answer is left
abbrev pub alone : Actions → List Entry → Run
alone a known = run next_answer a known []

-- that run asks for this key at this place, to which the code comes from where it began
pub record AsksAlone (code : Flat) (start : Frame) (a : Actions) (known : List Entry) (k : Key) (f : Frame) : Type 0 where
  pub asks : (alone a known).asks ≡ Some k
  pub goes : GoesOn a known [] k
  pub awaits : Awaits code f k goes.next
  pub comes : ComesTo code start known [] k (alone a known).known f

-- how that run stops
abbrev pub StopsAlone : Flat → Frame → Actions → List Entry → Next → Type 0
StopsAlone code start a known (Asks k cont) = AsksAlone code start a known k (frame_of cont)
StopsAlone code start a known (Ends how) = (alone a known).ending ≡ Some how

-- what code did from a place at which it does these actions
pub record IsSegment (code : Flat) (start : Frame) (a : Actions) (known : List Entry) (seg : Seg) : Type 0 where
  pub wrote : (alone a known).writes ≡ seg.wrote
  pub printed : (alone a known).out ≡ seg.printed
  pub ran : (alone a known).begun ≡ seg.ran
  pub next : StopsAlone code start a known seg.next

-- how the replay on these answers stops
abbrev pub StopsAs : Flat → Program → List ℤ → Next → Type 0
StopsAs code p answers (Asks k cont) = StandsAt code p answers k cont
StopsAs code p answers (Ends how) = (replay_of p answers).ending ≡ Some how

-- the first segment is the replay with no answers
pub record IsFirst (code : Flat) (p : Program) (seg : Seg) : Type 0 where
  pub wrote : (replay_of p []).writes ≡ seg.wrote
  pub printed : (replay_of p []).out ≡ seg.printed
  pub ran : (replay_of p []).begun ≡ seg.ran
  pub next : StopsAs code p [] seg.next

-- the segment that follows an answer is what the replay on it has beyond the replay without it
pub record IsSuffix (code : Flat) (p : Program) (answers : List ℤ) (value : ℤ) (seg : Seg) : Type 0 where
  pub wrote : (replay_of p (answers ++ value ∷ [])).writes ≡ (replay_of p answers).writes ++ seg.wrote
  pub printed : (replay_of p (answers ++ value ∷ [])).out ≡ (replay_of p answers).out ++ seg.printed
  pub ran : (replay_of p (answers ++ value ∷ [])).begun ≡ (replay_of p answers).begun + seg.ran
  pub next : StopsAs code p (answers ++ value ∷ []) seg.next

-- The laws of frames.
use Rattle.std.specs.Prelude.{◌≡◌, ℕ, ◌<◌, List, [], ◌++◌, length, take, Some}
use Rattle.msg.specs.declared.Envelope.{Envelope}
use Rattle.wire.specs.declared.fault.FrameFault.TheVariants as faults
use Rattle.wire.specs.Sendable.{MaySend}
use Rattle.wire.specs.Wire.{frame, InRange, frame_fault, BeginsWith}

-- a frame with which another begins is that frame, and of the same envelope
abbrev pub NoPrefix : Type 0
NoPrefix = (m n : Envelope) (rest : List ℕ) → MaySend m → InRange m → MaySend n → InRange n → frame n ≡ frame m ++ rest → (m ≡ n) × (rest ≡ [])

-- two fronts of bytes that are frames of one envelope are the same bytes
abbrev pub OneFrame : Type 0
OneFrame = (bytes others : List ℕ) (m : Envelope) (len size : ℕ) → BeginsWith bytes m len → BeginsWith others m size → take len bytes ≡ take size others

-- every proper prefix of a frame is Short
abbrev pub CutIsShort : Type 0
CutIsShort = (m : Envelope) (n : ℕ) → MaySend m → InRange m → n < length (frame m) → frame_fault (take n (frame m)) ≡ Some faults.Short

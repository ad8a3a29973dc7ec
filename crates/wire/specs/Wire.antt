-- What is said of frames outside this crate.
use Rattle.std.specs.Prelude.{◌≡◌, ℕ, ◌≤◌, List, length, take, Option, Some, None, Ok, Err}
use Rattle.msg.specs.declared.Envelope.{Envelope}
use Rattle.wire.specs.declared.fault.FrameFault.{FrameFault}
use Rattle.wire.specs.declared.fault.FrameFault.TheVariants as faults
use Rattle.wire.specs.Field.{Judged}
use Rattle.wire.specs.Frame.{envelope}
use Rattle.wire.specs.Sendable.{MaySend}

-- the frame of an envelope
abbrev pub frame : Envelope → List ℕ
frame m = envelope.frame m

-- each number is one of its type
abbrev pub InRange : Envelope → Type 0
InRange m = envelope.InRange m

abbrev pub fault_of : {A : Type 0} → Judged A → Option FrameFault
fault_of (Ok x) = None
fault_of (Err fault) = Some fault

-- the one fault of bytes, or none where a front of them is a frame
abbrev pub frame_fault : List ℕ → Option FrameFault
frame_fault bytes = fault_of (envelope.judged bytes)

-- these first bytes are the frame of this envelope
pub record BeginsWith (bytes : List ℕ) (m : Envelope) (len : ℕ) : Type 0 where
  pub may_send : MaySend m
  pub in_range : InRange m
  pub within : len ≤ length bytes
  pub front : take len bytes ≡ frame m

-- memory ran out, or this is the fault of the bytes
abbrev pub IsFault : FrameFault → List ℕ → Type 0
IsFault faults.NoMemory bytes = Unit {0}
IsFault fault bytes = frame_fault bytes ≡ Some fault

-- The frames of a mail, one by one.
use Rattle.std.specs.Prelude.{ℕ, List, [], unwrap_or, slice_get}
use Rattle.std.specs.Option.{option_map}
use Rattle.msg.specs.declared.Envelope.{Envelope}
use Rattle.wire.specs.Wire.{frame}

-- the frame of the envelope of a number
abbrev pub frame_at : List Envelope → ℕ → List ℕ
frame_at mail number = unwrap_or (option_map frame (slice_get mail number)) []

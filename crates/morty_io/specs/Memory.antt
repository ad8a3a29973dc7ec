-- What a source and a sink over memory stand for.
use Rattle.std.specs.Prelude.{◌≡◌, ◌+◌, ◌-◌, ◌<◌, ℕ, List, length, Contains, ◌⊎◌}
use Rattle.morty_io.specs.declared.mem_sink.TheConstants.{SINK_ROOM}

-- the bytes still to come, the calls made, the numbers of those that fail, and the faults so far
pub record MemSourceState : Type 0 where
  pub left : List ℕ
  pub calls : ℕ
  pub fails : List ℕ
  pub faults : ℕ

-- the bytes taken, the most that one call takes, the calls made, the numbers of those that fail, and the faults so far
pub record MemSinkState : Type 0 where
  pub taken : List ℕ
  pub most : ℕ
  pub calls : ℕ
  pub fails : List ℕ
  pub faults : ℕ

-- how many more bytes the sink has room for
abbrev pub room_left : MemSinkState → ℕ
room_left sink = SINK_ROOM - length sink.taken

-- the next call is listed as one that fails, or the piece has bytes and no room is left
abbrev pub FailsNext : MemSinkState → List ℕ → Type 0
FailsNext sink piece = Contains sink.fails (sink.calls + 1) ⊎ ((0 < length piece) × (room_left sink ≡ 0))

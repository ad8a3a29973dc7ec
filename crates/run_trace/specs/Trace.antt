-- The bytes of a trace: a run's script, its events, what was sent in it, and how it ended.
use Rattle.std.specs.Prelude.{ℕ, List, [], ◌∷◌, ◌++◌, length, flat_map, codes}
use Rattle.morty_base.specs.declared.names.NodeId.TheVariants.{Client}
use Rattle.morty_base.specs.declared.names.Ended.{Ended}
use Rattle.morty_base.specs.declared.names.Ended.TheVariants.{Quiet, Spent, Full}
use Rattle.msg.specs.declared.Pick.{Pick}
use Rattle.msg.specs.declared.Pick.TheVariants.{Idle, Deliver, Go, Hurry, Recover, Truncate, Stop}
use Rattle.msg.specs.declared.Event.{Event}
use Rattle.msg.specs.declared.Event.TheVariants.{Picked, Ran}
use Rattle.msg.specs.declared.Envelope.{Envelope}
use Rattle.wire.specs.Field.{u32, u64}
use Rattle.wire.specs.Values.{version, exec}
use Rattle.wire.specs.Frame.{node}
use Rattle.wire.specs.Wire.{frame}

abbrev pub pick_code : Pick → ℕ
pick_code Idle = 0
pick_code (Deliver i) = 1
pick_code Go = 2
pick_code Hurry = 3
pick_code (Recover x) = 4
pick_code (Truncate v) = 5
pick_code Stop = 6

-- what was picked, behind its code and the node
abbrev pub pick_fields : Pick → List ℕ
pick_fields (Deliver i) = u64.frame i
pick_fields (Recover x) = exec.frame x
pick_fields (Truncate v) = version.frame v
pick_fields _ = []

-- a segment that was given back has the code 7, and its client for its node
unfoldable pub event_bytes : Event → List ℕ
event_bytes (Picked n pick) = pick_code pick ∷ node.frame n ++ pick_fields pick
event_bytes (Ran c) = 7 ∷ node.frame (Client c)

abbrev pub end_code : Ended → ℕ
end_code Quiet = 0
end_code Spent = 1
end_code Full = 2

-- a script's text, the events, the frames of the envelopes in the order in which they were sent, each behind its number, and
-- the end
unfoldable pub trace_bytes : List ℕ → List Event → List Envelope → Ended → List ℕ
trace_bytes script events mail ended =
    codes "MTY1"
    ++ u32.frame (length script) ++ script
    ++ u32.frame (length events) ++ flat_map event_bytes events
    ++ u32.frame (length mail) ++ flat_map frame mail
    ++ end_code ended ∷ []

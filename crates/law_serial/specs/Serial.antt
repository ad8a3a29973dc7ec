-- Committed executions are a serial run, and bases are its map.
use Rattle.std.specs.Prelude.{List}
use Rattle.protocol.specs.Words.{Version, BaseEntry, Drops}
use Rattle.protocol.specs.World.State.{World}
use Rattle.protocol.specs.World.Decided.{WasSent}
use Rattle.protocol.specs.World.Committed.{committed_executions, base_at}
use Rattle.protocol_plans.specs.Scripted.{Scripted, plan_of}
use Rattle.protocol_plans.specs.AlwaysOfScripts.{AlwaysOfScripts}
use Rattle.protocol_plans.specs.SerialOutcome.{IsSerial, IsSerialBase, IsBaseAt, upto_version}

-- the committed executions by rising version are the serial run of their programs on the first values
abbrev pub SerialReadsOf : Scripted → World → Type 0
SerialReadsOf s w = IsSerial s (committed_executions (plan_of s) w)

abbrev pub SerialReads : Type 0
SerialReads = AlwaysOfScripts SerialReadsOf

-- the base of a world at a version is the map that the serial run of the committed executions up to that version leaves,
-- on the keys of which they kept a write
abbrev pub SerialBaseOf : Scripted → World → Type 0
SerialBaseOf s w = (v : Version) → IsSerialBase s (upto_version v (committed_executions (plan_of s) w)) (base_at (plan_of s) w v)

abbrev pub SerialBase : Type 0
SerialBase = AlwaysOfScripts SerialBaseOf

-- each Drop that was sent, now or ever before, carries the base of the world at its version, and that is the serial map there
abbrev pub DropsAreSerialOf : Scripted → World → Type 0
DropsAreSerialOf s w = (v : Version) (bs : List BaseEntry) → WasSent w (Drops v bs) → IsBaseAt s w v bs

abbrev pub DropsAreSerial : Type 0
DropsAreSerial = AlwaysOfScripts DropsAreSerialOf

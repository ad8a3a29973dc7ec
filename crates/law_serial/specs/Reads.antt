-- What a program reads, in each content that was prepared.
use Rattle.std.specs.Prelude.{◌≡◌, ℤ, true, Option, Bool}
use Rattle.protocol.specs.Words.{Exec, Version, Wid, Content, Read, Prepare, Note, before}
use Rattle.protocol.specs.Lists.{IsIn}
use Rattle.protocol.specs.World.State.{Plan, World}
use Rattle.protocol.specs.World.Decided.{WasSent}
use Rattle.protocol.specs.Always.{AlwaysOfPrograms}
use Rattle.law_serial.specs.SureNotes.{IsSure}

-- a Note to this version told the read, and one called its write name sure
pub record IsNoted (w : World) (v : Version) (r : Read) : Type 0 where
  pub said : (s : Bool) × (lost : Option Wid) × WasSent w (Note v r.key r.wid r.value s lost)
  pub sure : (value : ℤ) × (lost : Option Wid) × WasSent w (Note v r.key r.wid value true lost)

-- the reads of each content that was prepared were told by Notes
abbrev pub ReadsNotedOf : Plan → World → Type 0
ReadsNotedOf p w = (x : Exec) (k : Content) (r : Read) → WasSent w (Prepare x k) → IsIn r k.reads → IsNoted w x.ver r

abbrev pub ReadsNoted : Type 0
ReadsNoted = AlwaysOfPrograms ReadsNotedOf

-- and their write names are those of first values or of last writes of committed executions, below their version
abbrev pub ReadsSureOf : Plan → World → Type 0
ReadsSureOf p w = (x : Exec) (k : Content) (r : Read) → WasSent w (Prepare x k) → IsIn r k.reads →
    (before r.wid.ver x.ver ≡ true) × ((value : ℤ) × IsSure p w r.key r.wid value)

abbrev pub ReadsSure : Type 0
ReadsSure = AlwaysOfPrograms ReadsSureOf

-- each read of a prepared content is below its version, and has the value of the write that it names: a first value, or
-- the last write of the key in a committed execution
abbrev pub ReadsCurrentOf : Plan → World → Type 0
ReadsCurrentOf p w = (x : Exec) (k : Content) (r : Read) → WasSent w (Prepare x k) → IsIn r k.reads →
    (before r.wid.ver x.ver ≡ true) × IsSure p w r.key r.wid r.value

abbrev pub ReadsCurrent : Type 0
ReadsCurrent = AlwaysOfPrograms ReadsCurrentOf

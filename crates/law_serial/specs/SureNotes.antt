-- What a Note calls sure.
use Rattle.std.specs.Prelude.{◌≡◌, ℕ, ℤ, true, false, Option}
use Rattle.protocol.specs.Words.{Exec, Version, Wid, Key, Replica, Envelope, BaseEntry, Content, Prepare, Note, no_version, before, wid_before}
use Rattle.protocol.specs.Lists.{IsIn}
use Rattle.protocol.specs.Replica.Held.{first_held}
use Rattle.protocol.specs.Warden.Base.{entries_of}
use Rattle.protocol.specs.World.State.{Plan, World}
use Rattle.protocol.specs.World.Decided.{WasSent, Committed}
use Rattle.protocol.specs.Always.{Always}

-- the write of the greatest write name among the writes of k in the content l of y
pub record IsLastWrite (y : Exec) (l : Content) (k : Key) (wid : Wid) (value : ℤ) : Type 0 where
  pub entry : IsIn (record { key = k; wid = wid; value = value }) (entries_of y 1 l.writes)
  pub last : (e : BaseEntry) → IsIn e (entries_of y 1 l.writes) → e.key ≡ k → wid_before wid e.wid ≡ false

-- a first value, or the last write of k in a committed content
pub data IsSure (p : Plan) (w : World) (k : Key) (wid : Wid) (value : ℤ) : Type 0 where
  First_value : wid ≡ record { ver = no_version; eid = 0; seq = 0 } → value ≡ (first_held p.firsts k).value → IsSure p w k wid value
  Last_write : (y : Exec) (l : Content) → Committed w y → WasSent w (Prepare y l) → IsLastWrite y l k wid value → IsSure p w k wid value

-- what a Note calls sure is a first value or the last write of a committed execution, below the reader's version
abbrev pub SureNotesOf : Plan → World → Type 0
SureNotesOf p w = (e : Envelope) (r : ℕ) (v : Version) (k : Key) (wid : Wid) (value : ℤ) (lost : Option Wid) →
    IsIn e w.mail → e.from ≡ Replica r → e.body ≡ Note v k wid value true lost → (before wid.ver v ≡ true) × IsSure p w k wid value

abbrev pub SureNotes : Type 0
SureNotes = Always SureNotesOf

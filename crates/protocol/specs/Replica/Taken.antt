-- A replica is the list of the envelopes that it took: what it takes, drops and fences is read from that list.
use Rattle.std.specs.Prelude.{Bool, true, false, cond, not, ◌&&◌, List, [], ◌∷◌, Option, Some, None}
use Rattle.protocol.specs.Words.{Version, ToCommit, BaseEntry, Envelope, Body, Get, Puts, Prepare, Finalize, Decide, Ask, Fence, Drops, no_version, before}

-- the envelopes that a replica took, the newest first
abbrev pub Handled : Type 0
Handled = List Envelope

-- the later of two versions
abbrev pub later : Version → Version → Version
later a b = cond (before a b) b a

-- the version that a body drops
abbrev pub dropped_by : Body → Version
dropped_by (Drops version base) = version
dropped_by _ = no_version

-- the greatest version that a Drop named
abbrev pub dropped : Handled → Version
dropped [] = no_version
dropped (m ∷ h) = later (dropped h) (dropped_by m.body)

-- the version up to which a body fences
abbrev pub fenced_by : Body → Version
fenced_by (Drops version base) = version
fenced_by (Fence version) = version
fenced_by _ = no_version

-- the greatest version that a Fence or a Drop named: no vote at or below it is Commit any more
abbrev pub fence : Handled → Version
fence [] = no_version
fence (m ∷ h) = later (fence h) (fenced_by m.body)

-- a Drop of a later version than all before brings its base
abbrev pub base_after : Handled → List BaseEntry → Body → List BaseEntry
base_after h b (Drops version base) = cond (before (dropped h) version) base b
base_after h b _ = b

-- the base of the first Drop of the dropped version
abbrev pub base : Handled → List BaseEntry
base [] = []
base (m ∷ h) = base_after h (base h) m.body

-- the version that a body is about, where a replica has a rule for it
abbrev pub version_of : Body → Option Version
version_of (Get x k) = Some x.ver
version_of (Puts x writes) = Some x.ver
version_of (Prepare x content) = Some x.ver
version_of (Finalize x view choice content) = Some x.ver
version_of (Decide x choice content) = Some x.ver
version_of (Ask x view) = Some x.ver
version_of (Fence version) = Some version
version_of (Drops version base) = Some version
version_of _ = None

-- a Finalize or Decide of Commit without its content changes nothing
abbrev pub lacks_content : Body → Bool
lacks_content (Finalize x view ToCommit None) = true
lacks_content (Decide x ToCommit None) = true
lacks_content _ = false

-- there is a version, and it is above w
abbrev pub is_above : Version → Option Version → Bool
is_above version None = false
is_above version (Some v) = before version v

-- a replica takes what its rules speak of, about versions above the dropped one alone
unfoldable pub takes : Handled → Body → Bool
takes h b = is_above (dropped h) (version_of b) && not (lacks_content b)

-- the list after an envelope came
unfoldable pub after_taking : Handled → Envelope → Handled
after_taking h m = cond (takes h m.body) (m ∷ h) h

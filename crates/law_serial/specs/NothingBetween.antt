-- What lies between a read and its reader.
use Rattle.std.specs.Prelude.{◌≡◌, true, false}
use Rattle.protocol.specs.Words.{Exec, Content, Read, Prepare, before}
use Rattle.protocol.specs.Lists.{IsIn}
use Rattle.protocol.specs.Replica.Votes.{writes_key}
use Rattle.protocol.specs.World.State.{Plan, World}
use Rattle.protocol.specs.World.Decided.{WasSent, Committed}
use Rattle.protocol.specs.Always.{Always}

-- between the version that a committed execution read a key from and its own no committed execution writes that key
abbrev pub NothingBetweenOf : Plan → World → Type 0
NothingBetweenOf p w = (x z : Exec) (k m : Content) (r : Read) →
    Committed w x → WasSent w (Prepare x k) → IsIn r k.reads → Committed w z → WasSent w (Prepare z m) →
    before r.wid.ver z.ver ≡ true → before z.ver x.ver ≡ true → writes_key r.key m.writes ≡ false

abbrev pub NothingBetween : Type 0
NothingBetween = Always NothingBetweenOf

-- What becomes of an attempt on a decision.
use Rattle.protocol.specs.Words.{Choice, Abandon, ToCommit}
use Rattle.protocol.specs.declared.Fate.{Fate}
use Rattle.protocol.specs.declared.Fate.TheVariants.{Committed, Aborted}

-- the fate of an attempt whose execution is decided
abbrev pub fate_of : Choice → Fate
fate_of ToCommit = Committed
fate_of Abandon = Aborted

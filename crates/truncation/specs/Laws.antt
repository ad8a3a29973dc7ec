-- Recoveries beside truncations.
use Rattle.std.specs.Prelude.{List}
use Rattle.protocol.specs.Words.{Exec, Envelope}
use Rattle.protocol.specs.Warden.State.{WardenState}
use Rattle.protocol.specs.Warden.Recovery.{recover}
use Rattle.recovery.specs.Recoverer.{RecoveringWarden, Does}
use Rattle.truncation.specs.Truncator.{TruncatingWarden, StandsFor, StandsAt}

-- a recovery that the Recoverer begins is a turn of the warden for which it stands beside its Truncator
abbrev pub RecoveriesStand : Type 0
RecoveriesStand = (t : TruncatingWarden) (rec rec' : RecoveringWarden) (s : WardenState) (x : Exec) (before after : List Envelope) → StandsFor t rec s
    → Does (recover rec.rules rec.state x) rec rec' before after → StandsAt t rec' before after (recover rec.rules s x)

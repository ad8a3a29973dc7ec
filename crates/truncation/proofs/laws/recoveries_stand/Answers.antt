-- A recovery neither reads nor changes truncations.
use Rattle.protocol.specs.Warden.Recovery.{recover}
use Rattle.recovery.proofs.KeepsTruncations.{keeps_truncations}
use Rattle.truncation.proofs.TruncatorLemmas.{recovers_on}
use Rattle.truncation.proofs.laws.recoveries_stand.Goals as goal

pub returns : goal.returns
returns c = λ t rec rec' s x before after. recovers_on (λ z. recover rec.rules z x)
    (λ z ts. keeps_truncations.recovers rec.rules z ts x) t rec rec' s before after

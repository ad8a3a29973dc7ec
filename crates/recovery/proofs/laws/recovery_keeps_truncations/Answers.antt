-- The law on truncations.
use Rattle.recovery.proofs.KeepsTruncations.{keeps_truncations}
use Rattle.recovery.proofs.laws.recovery_keeps_truncations.Goals as goal

pub returns : goal.returns
returns c = keeps_truncations

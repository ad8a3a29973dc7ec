-- The counted answers of a truncation name each committed execution at or below its version, or it was dropped before.
use Rattle.law_steps.proofs.AlwaysLemmas.{always}
use Rattle.law_safety.specs.Bases.{FenceNames, FenceNamesOf}
use Rattle.law_safety.proofs.TruncationSettles.{named_fact}
use Rattle.law_safety.proofs.InvariantHolds.{safe_reach}
use Rattle.law_safety.proofs.CommitIsSent.{committed_sent}

pub fence_names : FenceNames
fence_names =
    always FenceNamesOf (λ p some w q k t x there many c u. named_fact p some w q (safe_reach p some w q) k t there many x u (committed_sent p some w q x c))

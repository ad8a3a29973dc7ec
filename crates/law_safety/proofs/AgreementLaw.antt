-- No two nodes decide an execution differently.
use Rattle.std.proofs.Common.{◌≡◌, ◌<◌, ◌≢◌, Some}
use Rattle.protocol.specs.Words.{Exec, NodeId, Abandon, ToCommit}
use Rattle.protocol.specs.World.State.{Plan, World}
use Rattle.protocol.specs.World.Decided.{decided_by}
use Rattle.law_steps.proofs.Reach.{Reach}
use Rattle.law_steps.proofs.AlwaysLemmas.{always}
use Rattle.law_safety.specs.Agreement.{Agreement, AgreementOf}
use Rattle.law_safety.proofs.LocksLemmas.{locks_clash}
use Rattle.law_safety.proofs.CommitIsSent.{decided_by_sent}
use Rattle.law_safety.proofs.InvariantHolds.{safe_reach}

module _ (p : Plan) (pos : 0 < p.replicas) where
  agreed : (w : World) → Reach p w → (x : Exec) (a b : NodeId) → decided_by w a x ≡ Some Abandon → decided_by w b x ≢ Some ToCommit
  agreed w q x a b e f = let s = safe_reach p pos w q in let d = decided_by_sent p pos w q a x Abandon e in let c = decided_by_sent p pos w q b x ToCommit f in
      locks_clash p w q s.proposals x (s.abandoned x d.0 d.1) (s.committed x c.0 c.1).0

pub agreement : Agreement
agreement = always AgreementOf agreed

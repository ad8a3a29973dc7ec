-- What is decided is locked, a Final vote locks Abandon, and nothing is locked both ways.
use Rattle.std.proofs.Common.{◌≡◌, ℕ, refl, subst, Some}
use Rattle.protocol.specs.Words.{Exec, NodeId, Client, Replica, Warden, Vote, Final, Voted, Abandon}
use Rattle.protocol.specs.Replica.Votes.{vote}
use Rattle.protocol.specs.World.Decided.{WasSent}
use Rattle.protocol.specs.World.State.{Plan, World}
use Rattle.law_steps.proofs.ReplicaFacts.{RFact, facts_reach}
use Rattle.law_steps.proofs.ClientFacts.{CFact, client_facts_reach}
use Rattle.law_steps.proofs.WardenFacts.{WFact, ward_facts_reach}
use Rattle.law_steps.proofs.Reach.{Reach}
use Rattle.law_steps.proofs.AlwaysLemmas.{always}
use Rattle.law_safety.specs.Invariants.{LocksHold, LocksHoldOf}
use Rattle.law_safety.proofs.LocksLemmas.{locks_clash}
use Rattle.law_safety.proofs.InvariantHolds.{safe_reach}
use Rattle.law_safety.proofs.CommitIsSent.{decided_by_sent, committed_sent}

-- a vote in the mail is that of a replica
voted_by : (p : Plan) (w : World) → Reach p w → (x : Exec) (v : Vote) → WasSent w (Voted x v) → (r : ℕ) × (vote (w.replica r) x ≡ Some v)
voted_by p w q x v t = go t.envelope.from refl
  where
    go : (n : NodeId) → t.envelope.from ≡ n → (r : ℕ) × (vote (w.replica r) x ≡ Some v)
    go (Replica r) f = (r, subst (RFact r (w.replica r)) t.body ((facts_reach p w q).said t.envelope r t.there f))
    go (Client c) f = absurd (subst (CFact c (w.client c)) t.body ((client_facts_reach p w q).said t.envelope c t.there f))
    go (Warden k) f = absurd (subst (WFact p.wardens k (w.warden k)) t.body ((ward_facts_reach p w q).said t.envelope k t.there f))

pub locks_hold : LocksHold
locks_hold = always LocksHoldOf (λ p some w q. let s = safe_reach p some w q in record {
  abandoned = λ n x e. let d = decided_by_sent p some w q n x Abandon e in s.abandoned x d.0 d.1;
  final = λ x t. let v = voted_by p w q x Final t in s.final x v.0 v.1;
  committed = λ x c. let d = committed_sent p some w q x c in (s.committed x d.0 d.1).0;
  never_both = λ x a c. locks_clash p w q s.proposals x a c;
})

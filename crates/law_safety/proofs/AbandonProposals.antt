-- Where Abandon was proposed, the client proposed it in view 0, or some replica is shut to the execution.
use Rattle.std.proofs.Common.{◌≡◌, ◌+◌, ◌*◌, inl, inr, Option, arith}
use Rattle.protocol.specs.Words.{Exec, Client, Choice, Content, Finalize, Abandon}
use Rattle.protocol.specs.World.Decided.{WasSent, WasSentBy}
use Rattle.protocol.specs.World.State.{Plan, World}
use Rattle.law_steps.proofs.Reach.{Reach}
use Rattle.law_steps.proofs.Senders.{final_from, FinalFrom, warden_view}
use Rattle.law_steps.proofs.Senders.FinalFrom.{By_client, By_warden}
use Rattle.law_steps.proofs.AlwaysLemmas.{always}
use Rattle.law_safety.specs.Invariants.{AbandonProposals, AbandonProposalsOf}
use Rattle.law_safety.specs.Invariants.MayAbandon.{Client_proposed, One_shut}
use Rattle.law_safety.proofs.InvariantHolds.{safe_reach}

-- a proposal of view 0 is the client's
first_view : (p : Plan) (w : World) → Reach p w → (x : Exec) (d : Choice) (o : Option Content) → WasSent w (Finalize x 0 d o) →
    WasSentBy w (Client x.ver.client) (Finalize x 0 d o)
first_view p w q x d o t = go (final_from p w q t.envelope x 0 d o t.there t.body)
  where
    go : FinalFrom p w t.envelope x 0 d o → WasSentBy w (Client x.ver.client) (Finalize x 0 d o)
    go (By_client m z h) = record { envelope = t.envelope; there = t.there; from = m; body = t.body }
    go (By_warden k m range a h i) = let v = warden_view p w q k x 0 a h in let y : 0 ≡ k + v.0 * p.wardens = v.1 in let l = range.0 in absurd (omega (arith, y, l))

pub abandon_proposals : AbandonProposals
abandon_proposals = always AbandonProposalsOf (λ p some w q x v o t. elim ((safe_reach p some w q).proposals.abandon x v o t) [
  | inl u ↦ Client_proposed u.0 (first_view p w q x Abandon u.0 u.1)
  | inr s ↦ One_shut s.0 s.1 s.2 s.3
])

-- Who sent a Prepare and a Finalize, and what its sender knows of it.
use Rattle.std.proofs.Common.{◌≡◌, ℕ, ◌<◌, ◌≤◌, ◌+◌, ◌*◌, refl, sym, ◌∙◌, subst, Option, Some}
use Rattle.protocol.specs.Words.{Exec, NodeId, Client, Replica, Warden, Envelope, Content, Choice, Prepare, Finalize}
use Rattle.protocol.specs.Lists.{IsIn}
use Rattle.protocol.specs.Warden.State.{Round}
use Rattle.protocol.specs.Warden.Recovery.{round_of}
use Rattle.protocol.specs.World.State.{Plan, World}
use Rattle.law_steps.proofs.Reach.{Reach}
use Rattle.law_steps.proofs.ReplicaFacts.{RFact, facts_reach}
use Rattle.law_steps.proofs.ClientFacts.{CFact, At, HasPrepared, HasProposed, client_facts_reach}
use Rattle.law_steps.proofs.WardenFacts.{WFact, round_found, ward_facts_reach, wrec_reach}

-- which client sent a Prepare
pub prepare_from : (p : Plan) (w : World) → Reach p w → (e : Envelope) (x : Exec) (k : Content) → IsIn e w.mail → e.body ≡ Prepare x k →
    (e.from ≡ Client x.ver.client) × At (HasPrepared k) x (w.client x.ver.client)
prepare_from p w q e x k i b = go e.from refl
  where
    go : (n : NodeId) → e.from ≡ n → (e.from ≡ Client x.ver.client) × At (HasPrepared k) x (w.client x.ver.client)
    go (Client c) f = let g : CFact c (w.client c) (Prepare x k) = subst (CFact c (w.client c)) b ((client_facts_reach p w q).said e c i f) in (rw (f, g.0), subst (λ z. At (HasPrepared k) x (w.client z)) (sym g.0) g.1)
    go (Replica r) f = absurd (subst (RFact r (w.replica r)) b ((facts_reach p w q).said e r i f))
    go (Warden k') f = absurd (subst (WFact p.wardens k' (w.warden k')) b ((ward_facts_reach p w q).said e k' i f))

-- who sent a Finalize: the client, in view 0, or a warden, whose round in that view proposed it
pub data FinalFrom (p : Plan) (w : World) (e : Envelope) (x : Exec) (v : ℕ) (d : Choice) (o : Option Content) : Type 0 where
  By_client : e.from ≡ Client x.ver.client → v ≡ 0 → At (HasProposed d o) x (w.client x.ver.client) → FinalFrom p w e x v d o
  By_warden : (k : ℕ) → e.from ≡ Warden k → (0 < k) × (k ≤ p.wardens) → (a : Round) → round_of x v (w.warden k).rounds ≡ Some a →
      a.proposal ≡ Some (record { choice = d; content = o }) → FinalFrom p w e x v d o

pub final_from : (p : Plan) (w : World) → Reach p w → (e : Envelope) (x : Exec) (v : ℕ) (d : Choice) (o : Option Content) → IsIn e w.mail →
    e.body ≡ Finalize x v d o → FinalFrom p w e x v d o
final_from p w q e x v d o i b = go e.from refl
  where
    go : (n : NodeId) → e.from ≡ n → FinalFrom p w e x v d o
    go (Client c) f = let g : CFact c (w.client c) (Finalize x v d o) = subst (CFact c (w.client c)) b ((client_facts_reach p w q).said e c i f) in By_client (rw (f, g.1)) g.0 (subst (λ z. At (HasProposed d o) x (w.client z)) (sym g.1) g.2)
    go (Replica r) f = absurd (subst (RFact r (w.replica r)) b ((facts_reach p w q).said e r i f))
    go (Warden k) f = let g : WFact p.wardens k (w.warden k) (Finalize x v d o) = subst (WFact p.wardens k (w.warden k)) b ((ward_facts_reach p w q).said e k i f) in By_warden k f g.0 g.1.0 g.1.1 g.1.2

-- a warden's view is k + i * n for some i
pub warden_view : (p : Plan) (w : World) → Reach p w → (k : ℕ) (x : Exec) (v : ℕ) (a : Round) → round_of x v (w.warden k).rounds ≡ Some a →
    (i : ℕ) × (v ≡ k + i * p.wardens)
warden_view p w q k x v a e = let f = round_found x v (w.warden k).rounds a e in let n = (wrec_reach p w q k).numbered a f.0 in (n.0, sym f.2 ∙ n.2)

-- A body in the mail after a step is old, or was sent in it.
use Rattle.std.proofs.Common.{◌≡◌, ℕ, inl, inr, sym, ◌∙◌, subst}
use Rattle.protocol.specs.Words.{Client, Warden, Body}
use Rattle.protocol.specs.Lists.{IsIn}
use Rattle.protocol.specs.Warden.State.{Parcel}
use Rattle.protocol.specs.World.State.{Plan, World}
use Rattle.protocol.specs.World.Decided.{WasSent}
use Rattle.protocol.proofs.ListsLemmas.{IsIn-cases}
use Rattle.law_steps.proofs.SaysLemmas.{spoken}
use Rattle.law_steps.proofs.Reach.{Step, Reach, ByClientAct, ByWardenAct}
use Rattle.law_steps.proofs.Reach.Step.{Stands, Client_acts, Replica_acts, Warden_acts}
use Rattle.law_steps.proofs.Reach.From.{Next}
use Rattle.law_steps.proofs.SendingLemmas.{from_to_all, from_parcels, parcel_body}
use Rattle.law_steps.proofs.ReplicaFacts.{RFact, facts_reach}
use Rattle.law_steps.proofs.WardenFacts.{WFact, ward_facts_reach}

-- a body in the mail after a step is old, or was sent in it
pub data Origin (p : Plan) (w w' : World) (b : Body) : Type 0 where
  Old : WasSent w b → Origin p w w' b
  Of_replica : (r : ℕ) → RFact r (w'.replica r) b → Origin p w w' b
  Of_client : (s : ByClientAct p w w') → IsIn b s.sent → Origin p w w' b
  Of_warden : (s : ByWardenAct p w w') (a : Parcel) → IsIn a s.sent → b ≡ parcel_body a → WFact p.wardens s.k (w'.warden s.k) b → Origin p w w' b

pub origin : (p : Plan) (w w' : World) → Reach p w → Step p w w' → (b : Body) → WasSent w' b → Origin p w w' b
origin p w w' q (Stands s) b t = Old (record { envelope = t.envelope; there = rw s.mail at t.there; body = t.body })
origin p w w' q (Client_acts s) b t = elim (IsIn-cases t.envelope w.mail _ (rw s.mail at t.there)) [
  | inl i ↦ Old (record { envelope = t.envelope; there = i; body = t.body })
  | inr i ↦ Of_client s (subst (λ z. IsIn z s.sent) t.body (from_to_all p.replicas (Client s.c) s.sent t.envelope i).1)
]
origin p w w' q (Replica_acts s) b t = elim (IsIn-cases t.envelope w.mail _ (rw s.mail at t.there)) [
  | inl i ↦ Old (record { envelope = t.envelope; there = i; body = t.body })
  | inr i ↦ Of_replica s.r (subst (RFact s.r (w'.replica s.r)) t.body ((facts_reach p w' (Next w w' q (Replica_acts s))).said t.envelope s.r t.there (spoken p.firsts s.r (w.replica s.r) s.m t.envelope i).0))
]
origin p w w' q (Warden_acts s) b t = elim (IsIn-cases t.envelope w.mail _ (rw s.mail at t.there)) [
  | inl i ↦ Old (record { envelope = t.envelope; there = i; body = t.body })
  | inr i ↦ let k = from_parcels p.replicas (Warden s.k) s.sent t.envelope i in Of_warden s k.1 k.2 (sym t.body ∙ k.3) (subst (WFact p.wardens s.k (w'.warden s.k)) t.body ((ward_facts_reach p w' (Next w w' q (Warden_acts s))).said t.envelope s.k t.there k.0))
]

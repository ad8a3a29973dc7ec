-- The mail only grows, and what a replica took was sent to it.
use Rattle.std.proofs.Common.{◌≡◌, ℕ, ◌⊎◌, inl, inr, true, false, Bool, cond, ◌∷◌}
use Rattle.protocol.specs.Words.{Replica, Envelope}
use Rattle.protocol.specs.Lists.{IsIn}
use Rattle.protocol.specs.Replica.Taken.{Handled, takes, after_taking}
use Rattle.protocol.specs.World.State.{Plan, World}
use Rattle.protocol.proofs.ListsLemmas.{IsIn-left}
use Rattle.law_steps.proofs.Reach.{Step, Reach}
use Rattle.law_steps.proofs.Reach.Step.{Stands, Client_acts, Replica_acts, Warden_acts}
use Rattle.law_steps.proofs.Induction.{on_replicas}

-- the mail only grows
pub mail_grows : (p : Plan) (w w' : World) → Step p w w' → (m : Envelope) → IsIn m w.mail → IsIn m w'.mail
mail_grows p w w' (Stands s) m h = rw s.mail h
mail_grows p w w' (Client_acts s) m h = rw s.mail (IsIn-left _ _ _ h)
mail_grows p w w' (Replica_acts s) m h = rw s.mail (IsIn-left _ _ _ h)
mail_grows p w w' (Warden_acts s) m h = rw s.mail (IsIn-left _ _ _ h)

-- what a replica took was sent, and to it
pub record TookMail (w : World) : Type 0 where
  pub took : (r : ℕ) (m : Envelope) → IsIn m (w.replica r) → IsIn m w.mail × (m.to ≡ Replica r)

pub taking_cases : (h : Handled) (m n : Envelope) → IsIn n (after_taking h m) → (n ≡ m) ⊎ IsIn n h
unfolding after_taking
taking_cases h m n i = go (takes h m.body) i
  where
    go : (t : Bool) → IsIn n (cond t (m ∷ h) h) → (n ≡ m) ⊎ IsIn n h
    go true i = i
    go false i = inr i

pub took_reach : (p : Plan) (w : World) → Reach p w → TookMail w
took_reach p w q = record {
  took = on_replicas p (λ v r h. (m : Envelope) → IsIn m h → IsIn m v.mail × (m.to ≡ Replica r)) (λ r m i. absurd i)
      (λ u v st r h k m i. let o = k m i in (mail_grows p u v st m o.0, o.1))
      (λ u v g s k m i. elim (taking_cases (u.replica s.r) s.m m i) [
        | inl e ↦ rw e (mail_grows p u v (Replica_acts s) s.m s.in_mail, s.addressed)
        | inr j ↦ k m j
      ]) w q;
}

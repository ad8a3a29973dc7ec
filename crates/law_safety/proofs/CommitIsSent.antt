-- An execution is committed just where a Decide of Commit of it was sent.
use Rattle.std.proofs.Common.{◌≡◌, ◌<◌, inl, inr, refl, sym, ◌∙◌, subst, true, false, Bool, cond, List, ◌∷◌, Option, Some, ap, []}
use Rattle.std.specs.List.{find}
use Rattle.std.specs.Prelude.{option_map, find}
use Rattle.protocol.specs.Words.{Exec, NodeId, Client, Replica, Warden, Content, Choice, Abandon, ToCommit, Decide, same_exec}
use Rattle.protocol.specs.Lists.{IsIn}
use Rattle.protocol.specs.Client.State.{Decision}
use Rattle.protocol.specs.Warden.State.{DecidedProposal, decision_on}
use Rattle.protocol.specs.World.State.{Plan, World}
use Rattle.protocol.specs.World.Decided.{decided_by, WasSent, Committed}
use Rattle.protocol.proofs.NamesLemmas.{same_exec_refl}
use Rattle.law_steps.proofs.KnownLemmas.{mapped_some, found, Finds, finds_cons, some_from}
use Rattle.law_steps.proofs.Reach.{Reach}
use Rattle.law_steps.proofs.ReplicaFacts.{RFact, facts_reach}
use Rattle.law_steps.proofs.ClientFacts.{CFact, client_facts_reach}
use Rattle.law_steps.proofs.WardenFacts.{WFact, ward_facts_reach}
use Rattle.law_steps.proofs.AlwaysLemmas.{always}
use Rattle.law_safety.specs.Invariants.{CommitIsSent, CommitIsSentOf}
use Rattle.law_safety.proofs.ClientEvidence.{decisions_reach}
use Rattle.law_safety.proofs.WardenEvidence.{ward_reach, decided_sent}
use Rattle.law_safety.proofs.TruncationSettles.{apart_locks, CommitSent}
use Rattle.law_safety.proofs.InvariantHolds.{safe_reach}

pub find_in : {A : Type 0} (name : A → Exec) (x : Exec) (xs : List A) (a : A) → IsIn a xs → name a ≡ x → Finds (find (λ y. same_exec x (name y)) xs)
find_in name x [] a i e = absurd i
find_in {A = A} name x (y ∷ ys) a (inl z) e = go (same_exec x (name y)) (subst (λ v. same_exec x v ≡ true) (sym e ∙ ap name z) (same_exec_refl x))
  where
    go : (t : Bool) → t ≡ true → Finds (cond t (Some y) (find (λ z. same_exec x (name z)) ys))
    go true q = tt
    go false q = cc
find_in name x (y ∷ ys) a (inr i) e = finds_cons (same_exec x (name y)) y _ (find_in name x ys a i e)

module _ (p : Plan) (pos : 0 < p.replicas) where
  -- what a node decided was sent
  pub decided_by_sent : (w : World) → Reach p w → (n : NodeId) (x : Exec) (d : Choice) → decided_by w n x ≡ Some d →
      (o : Option Content) × WasSent w (Decide x d o)
  decided_by_sent w q (Client c) x d e = let f = mapped_some (λ (y : Decision). y.choice) (find (λ (y : Decision). same_exec x y.exec) (w.client c).decisions) d e in
      let i = found (λ (y : Decision). y.exec) x (w.client c).decisions f.0 f.1 in
      let s = (decisions_reach p pos w q c).sent f.0 i.0 in
      (s.0, subst (λ (y : Exec). WasSent w (Decide y d s.0)) i.1 (subst (λ (y : Choice). WasSent w (Decide f.0.exec y s.0)) f.2 s.1))
  decided_by_sent w q (Replica r) x d e = decided_sent p w q x d r e
  decided_by_sent w q (Warden k) x d e = let f = mapped_some (λ (y : DecidedProposal). y.proposal.choice) (decision_on (w.warden k) x) d e in
      let i = found (λ (y : DecidedProposal). y.exec) x (w.warden k).decisions f.0 f.1 in
      let s = (ward_reach p pos w q k).decision f.0 i.0 in
      (f.0.proposal.content, subst (λ (y : Exec). WasSent w (Decide y d f.0.proposal.content)) i.1 (subst (λ (y : Choice). WasSent w (Decide f.0.exec y f.0.proposal.content)) f.2 s))

module _ (p : Plan) (pos : 0 < p.replicas) (w : World) (q : Reach p w) where
  pub committed_sent : (x : Exec) → Committed w x → CommitSent w x
  committed_sent x c = decided_by_sent p pos w q c.node x ToCommit c.decides

  -- a node that decided something on x, when Commit of x was sent, decided Commit
  decides_it : (n : NodeId) (x : Exec) → CommitSent w x → (d : Choice) → decided_by w n x ≡ Some d → Committed w x
  decides_it n x c ToCommit e = record { node = n; decides = e }
  decides_it n x c Abandon e = let a = decided_by_sent p pos w q n x Abandon e in let s = safe_reach p pos w q in absurd (apart_locks p pos w q s x (s.abandoned x a.0 a.1) c)

  pub sent_committed : (x : Exec) → CommitSent w x → Committed w x
  sent_committed x c = go c.1.envelope.from refl
    where
      go : (n : NodeId) → c.1.envelope.from ≡ n → Committed w x
      go (Client j) f =
          let i : IsIn (record { exec = x; choice = ToCommit }) (w.client j).decisions =
          subst (CFact j (w.client j)) c.1.body ((client_facts_reach p w q).said c.1.envelope j c.1.there f) in
          let d = some_from (find (λ (y : Decision). same_exec x y.exec) (w.client j).decisions) (find_in (λ (y : Decision). y.exec) x (w.client j).decisions (record { exec = x; choice = ToCommit }) i refl) in
          decides_it (Client j) x c d.0.choice (ap (λ (o : Option Decision). option_map (λ (y : Decision). y.choice) o) d.1)
      go (Replica r) f = absurd (subst (RFact r (w.replica r)) c.1.body ((facts_reach p w q).said c.1.envelope r c.1.there f))
      go (Warden k) f =
          let i : IsIn (record { exec = x; proposal = record { choice = ToCommit; content = c.0 } }) (w.warden k).decisions =
          subst (WFact p.wardens k (w.warden k)) c.1.body ((ward_facts_reach p w q).said c.1.envelope k c.1.there f) in
          let d = some_from (decision_on (w.warden k) x) (find_in (λ (y : DecidedProposal). y.exec) x (w.warden k).decisions (record { exec = x; proposal = record { choice = ToCommit; content = c.0 } }) i refl) in
          decides_it (Warden k) x c d.0.proposal.choice (ap (λ (o : Option DecidedProposal). option_map (λ (y : DecidedProposal). y.proposal.choice) o) d.1)

pub commit_is_sent : CommitIsSent
commit_is_sent = always CommitIsSentOf (λ p some w q. record { sent = committed_sent p some w q; committed = λ x o t. sent_committed p some w q x (o, t) })

-- What a node decided stays.
use Rattle.std.proofs.Common.{◌≡◌, ℕ, ◌<◌, refl, ap, sym, ◌∙◌, subst, List, Option, Some}
use Rattle.std.specs.Prelude.{option_map, find}
use Rattle.protocol.specs.Words.{Exec, NodeId, Client, Replica, Warden, Content, Choice, Abandon, ToCommit, Decide, same_exec}
use Rattle.protocol.specs.Lists.{IsIn}
use Rattle.protocol.specs.Replica.Taken.{Handled}
use Rattle.protocol.specs.Replica.Acceptor.{decided}
use Rattle.protocol.specs.Client.State.{Decision}
use Rattle.protocol.specs.Warden.State.{WardenState, DecidedProposal, decision_on}
use Rattle.protocol.specs.World.State.{Plan, World, first_world, warden_rules}
use Rattle.protocol.specs.World.Events.{replay_from}
use Rattle.protocol.specs.World.Decided.{decided_by, WasSent}
use Rattle.protocol.proofs.ReplicaGrows.{decided_stays}
use Rattle.law_steps.proofs.KnownLemmas.{mapped_some, found, some_from}
use Rattle.law_steps.proofs.Reach.{Step, Reach, From, from_trans, events_reach, HeardAt}
use Rattle.law_steps.proofs.Reach.From.{Begins, Next}
use Rattle.law_steps.proofs.WardenFacts.{ward_stays, wrec_reach, wardens_positive, wardens_range}
use Rattle.law_steps.proofs.AlwaysLemmas.{always}
use Rattle.law_steps.proofs.Induction.{warden_in_step, on_worlds}
use Rattle.law_safety.specs.Agreement.{DecisionsStay, DecisionsStayOf}
use Rattle.law_safety.proofs.LocksLemmas.{replica_grows, sent_grows}
use Rattle.law_safety.proofs.LocksStay.{decision_grows}
use Rattle.law_safety.proofs.TruncationSettles.{apart_locks}
use Rattle.law_safety.proofs.InvariantHolds.{safe_reach}
use Rattle.law_safety.proofs.CommitIsSent.{decided_by_sent, find_in}

-- what a warden decided stays
ward_decision_grows : (p : Plan) (w w' : World) → Reach p w → Step p w w' → (k : ℕ) (x : Exec) (d : Choice) (o : Option Content) →
    IsIn (record { exec = x; proposal = record { choice = d; content = o } }) (w.warden k).decisions → IsIn (record { exec = x; proposal = record { choice = d; content = o } }) (w'.warden k).decisions
ward_decision_grows p w w' q st k x d o =
    warden_in_step p w w' st (λ j s. IsIn (record { exec = x; proposal = record { choice = d; content = o } }) s.decisions)
    (λ s. ward_stays (warden_rules p s.k) (HeardAt w s.k) (w.warden s.k) s.state s.sent (wardens_positive s.k p.wardens s.real) (wardens_range s.k p.wardens s.real) s.act (wrec_reach p w q s.k) (Decide x d o)) k

-- the newest decision of a list that has one
client_finds : (x : Exec) (d : Choice) (ds : List Decision) → IsIn (record { exec = x; choice = d }) ds →
    (e : Choice) × (option_map (λ (y : Decision). y.choice) (find (λ (y : Decision). same_exec x y.exec) ds) ≡ Some e)
client_finds x d ds i = let f = some_from (find (λ (y : Decision). same_exec x y.exec) ds) (find_in (λ (y : Decision). y.exec) x ds (record { exec = x; choice = d }) i refl) in
    (f.0.choice, ap (λ (o : Option Decision). option_map (λ (y : Decision). y.choice) o) f.1)

ward_finds : (x : Exec) (s : WardenState) (d : DecidedProposal) → IsIn d s.decisions → d.exec ≡ x →
    (e : Choice) × (option_map (λ (y : DecidedProposal). y.proposal.choice) (decision_on s x) ≡ Some e)
ward_finds x s d i z = let f = some_from (decision_on s x) (find_in (λ (y : DecidedProposal). y.exec) x s.decisions d i z) in
    (f.0.proposal.choice, ap (λ (o : Option DecidedProposal). option_map (λ (y : DecidedProposal). y.proposal.choice) o) f.1)

module _ (p : Plan) (pos : 0 < p.replicas) where
  -- a node that decided something has decided something after a step
  decides_still : (w w' : World) → Reach p w → Step p w w' → (n : NodeId) (x : Exec) (d : Choice) → decided_by w n x ≡ Some d →
      (e : Choice) × (decided_by w' n x ≡ Some e)
  decides_still w w' q st (Replica r) x d e = (d, replica_grows p w w' st (λ (h : Handled). decided h x ≡ Some d) (λ h m f. decided_stays h m x d f) r e)
  decides_still w w' q st (Client c) x d e =
      let f = mapped_some (λ (y : Decision). y.choice) (find (λ (y : Decision). same_exec x y.exec) (w.client c).decisions) d e in
      let i = found (λ (y : Decision). y.exec) x (w.client c).decisions f.0 f.1 in
      let same : f.0 ≡ record { exec = x; choice = d } = λ z. record { exec = i.1 z; choice = f.2 z } in
      client_finds x d (w'.client c).decisions (decision_grows p w w' st c x d (subst (λ (y : Decision). IsIn y (w.client c).decisions) same i.0))
  decides_still w w' q st (Warden k) x d e =
      let f = mapped_some (λ (y : DecidedProposal). y.proposal.choice) (decision_on (w.warden k) x) d e in
      let i = found (λ (y : DecidedProposal). y.exec) x (w.warden k).decisions f.0 f.1 in
      ward_finds x (w'.warden k) f.0 (ward_decision_grows p w w' q st k f.0.exec f.0.proposal.choice f.0.proposal.content i.0) i.1

  -- two Decides of one execution carry one choice
  pub one_choice : (w : World) → Reach p w → (x : Exec) (d e : Choice) (o u : Option Content) → WasSent w (Decide x d o) → WasSent w (Decide x e u) → d ≡ e
  one_choice w q x Abandon Abandon o u s t = refl
  one_choice w q x ToCommit ToCommit o u s t = refl
  one_choice w q x Abandon ToCommit o u s t = absurd (apart_locks p pos w q (safe_reach p pos w q) x ((safe_reach p pos w q).abandoned x o s) (u, t))
  one_choice w q x ToCommit Abandon o u s t = absurd (apart_locks p pos w q (safe_reach p pos w q) x ((safe_reach p pos w q).abandoned x u t) (o, s))

  decision_stays : (w w' : World) → Reach p w → Step p w w' → (n : NodeId) (x : Exec) (d : Choice) → decided_by w n x ≡ Some d → decided_by w' n x ≡ Some d
  decision_stays w w' q st n x d e =
      let f = decides_still w w' q st n x d e in
      let q' : Reach p w' = Next w w' q st in
      let old = decided_by_sent p pos w q n x d e in
      let new = decided_by_sent p pos w' q' n x f.0 f.1 in
      f.1 ∙ ap Some (sym (one_choice w' q' x d f.0 old.0 new.0 (sent_grows p w w' st _ old.1) new.1))

  decision_later : (o w : World) → Reach p o → From p o w → (n : NodeId) (x : Exec) (d : Choice) → decided_by o n x ≡ Some d → decided_by w n x ≡ Some d
  decision_later o w r f n x d = on_worlds p o (λ v. decided_by o n x ≡ Some d → decided_by v n x ≡ Some d) (λ e. e)
      (λ u v g st k e. decision_stays u v (from_trans p first_world o u r g) st n x d (k e)) w f

pub decisions_stay : DecisionsStay
decisions_stay =
    always DecisionsStayOf (λ p some w q more n x choice e. decision_later p some w (replay_from p w more) q (events_reach p w w Begins more) n x choice e)

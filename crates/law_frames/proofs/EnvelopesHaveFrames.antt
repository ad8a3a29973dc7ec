-- Each envelope that was sent has a frame.
use Rattle.std.proofs.Common.{◌≡◌, ℕ, ◌<◌, inl, inr, refl, ap, sym, subst, true, List, [], ◌∷◌, Option, Some, None, length, arith}
use Rattle.std.specs.Prelude.{IfSome}
use Rattle.protocol.specs.Words.{Version, NodeId, Client, Replica, Warden, Envelope, Body, Event, Content, Kept, BaseEntry, Puts, Prepare, Finalize, Decide, Told, Fenced, Drops}
use Rattle.protocol.specs.Lists.{IsIn}
use Rattle.protocol.specs.World.State.{Plan, World, first_world, exists, mail_limit}
use Rattle.protocol.specs.World.Events.{Move, enabled, after, replay_from}
use Rattle.protocol.specs.World.Steps.{Happens}
use Rattle.protocol.specs.World.Decided.{HasContent, WasSent}
use Rattle.protocol.specs.Laws.{EventOutcome}
use Rattle.protocol.specs.Laws.EventOutcome.{Not_enabled, Refused, Moved}
use Rattle.protocol.proofs.BasicLaws.{events_move}
use Rattle.protocol.proofs.EventSteps.{after_happens}
use Rattle.protocol.proofs.ListsLemmas.{IsIn-right}
use Rattle.wire.specs.Sendable.{IsNumbered, IsShort, IsBase, IsKept, IsFit, MaySend}
use Rattle.law_steps.proofs.Reach.{Reach, happens_reach}
use Rattle.law_steps.proofs.KnownLemmas.{commit_taken, cast_taken}
use Rattle.law_steps.proofs.FencedFacts.{FencedFact, kept_voted}
use Rattle.law_steps.proofs.ReplicaFacts.{RFact, facts_reach}
use Rattle.law_steps.proofs.ClientFacts.{CFact, client_facts_reach}
use Rattle.law_steps.proofs.WardenFacts.{WFact, ward_facts_reach, wardens_range}
use Rattle.law_safety.proofs.ShapedBodies.{shaped_reach}
use Rattle.law_frames.specs.Limits.{PlanIsWithinLimits}
use Rattle.law_frames.specs.Frames.{EnvelopesHaveFrames}
use Rattle.law_frames.proofs.NodesExist.{NodesExist, nodes_exist, exists_stays}
use Rattle.law_frames.proofs.ContentsShort.{prepared_short, content_short, puts_short}
use Rattle.law_frames.proofs.ProposalsShaped.{proposal_shaped, shaped_choice}
use Rattle.law_frames.proofs.KeptRising.{IsRisingByExec, committed_rising, voted_rising}
use Rattle.law_frames.proofs.SentBefore.{kept_fit, drop_fit, took_before, took_prepared}

-- a node of the script is numbered within the limits
numbered : (p : Plan) → PlanIsWithinLimits p → (node : NodeId) → exists p node ≡ true → IsNumbered node
numbered p limits (Client n) e = let k = wardens_range n _ e in let a = k.0 in let b = k.1 in let l = limits.clients in
    (omega (arith, a), omega (arith, b, l))
numbered p limits (Replica n) e = let k = wardens_range n _ e in let a = k.0 in let b = k.1 in let l = limits.replicas in
    (omega (arith, a), omega (arith, b, l))
numbered p limits (Warden n) e = let k = wardens_range n _ e in let a = k.0 in let b = k.1 in let l = limits.wardens in
    (omega (arith, a), omega (arith, b, l))

some_short : (o : Option Content) → ((k : Content) → o ≡ Some k → IsShort k) → IfSome o IsShort
some_short None f = tt
some_short (Some k) f = f k refl

abbrev AllMaySend : World → Type 0
AllMaySend w = (m : Envelope) → IsIn m w.mail → MaySend m

-- after a step from a mail that has room
module _ (p : Plan) (limits : PlanIsWithinLimits p) (w w' : World) (q : Reach p w) (q' : Reach p w') (step : Happens p w w')
    (room : length w.mail < mail_limit) (before : AllMaySend w) where
  fenced_fit : (r : ℕ) (v : Version) (bs : List BaseEntry) (cs vs : List Kept) → WasSent w' (Fenced v bs cs vs) →
      FencedFact (w'.replica r) v bs cs vs → IsBase bs × IsKept cs × IsKept vs
  fenced_fit r v bs cs vs t f = (
    elim f.base [
      | inl z ↦ subst IsBase (sym z) (record { count = omega arith; rising = tt })
      | inr z ↦ subst IsFit z.3 (before z.1 (took_before p limits.some_replica w w' q q' step r z.1 z.2)).body
    ],
    kept_fit w room cs (subst IsRisingByExec (sym f.answer.committed) (committed_rising f.list v))
        (λ k j. took_prepared p limits.some_replica w w' q q' step r k.exec k.content (commit_taken (w'.replica r) k (f.committed k j).0))
        (λ k j. content_short p limits w' q' (Fenced v bs cs vs) k.exec k.content (inl j) t),
    kept_fit w room vs (subst IsRisingByExec (sym f.answer.voted) (voted_rising f.list v))
        (λ k j. let c = kept_voted f.list v k (subst (λ (l : List Kept). IsIn k l) f.answer.voted j) in
        let u = cast_taken f.list c.0 c.1 in
        took_prepared p limits.some_replica w w' q q' step r k.exec k.content (
          u.0,
          subst (λ l. IsIn u.0 l) (sym f.answer.split) (IsIn-right u.0 f.answer.later _ (inr u.1)),
          subst (λ (y : Kept). HasContent u.0.body y.exec y.content) (sym c.2) u.2,
        ))
        (λ k j. content_short p limits w' q' (Fenced v bs cs vs) k.exec k.content (inr j) t),
  )

  body_fit : (m : Envelope) → IsIn m w'.mail → (b : Body) → m.body ≡ b → IsFit b
  body_fit m i (Puts x ws) e = puts_short p limits w' q' x ws (record { envelope = m; there = i; body = e })
  body_fit m i (Prepare x k) e = prepared_short p limits w' q' x k (record { envelope = m; there = i; body = e })
  body_fit m i (Finalize x v d o) e = let t : WasSent w' (Finalize x v d o) = record { envelope = m; there = i; body = e } in (
    shaped_choice d o (proposal_shaped p limits.some_replica w' q' x v d o t),
    some_short o (λ k z. content_short p limits w' q' (Finalize x v d o) x k (refl, z) t),
  )
  body_fit m i (Decide x d o) e = let t : WasSent w' (Decide x d o) = record { envelope = m; there = i; body = e } in (
    shaped_choice d o (shaped_reach p limits.some_replica w' q' x d o t),
    some_short o (λ k z. content_short p limits w' q' (Decide x d o) x k (refl, z) t),
  )
  body_fit m i (Told x v vt ac de co) e = let t : WasSent w' (Told x v vt ac de co) = record { envelope = m; there = i; body = e } in
      some_short co (λ k z. content_short p limits w' q' (Told x v vt ac de co) x k (refl, z) t)
  body_fit m i (Fenced v bs cs vs) e = go m.from refl
    where
      go : (n : NodeId) → m.from ≡ n → IsBase bs × IsKept cs × IsKept vs
      go (Client c) f = absurd (subst (CFact c (w'.client c)) e ((client_facts_reach p w' q').said m c i f))
      go (Warden k) f = absurd (subst (WFact p.wardens k (w'.warden k)) e ((ward_facts_reach p w' q').said m k i f))
      go (Replica r) f = fenced_fit r v bs cs vs (record { envelope = m; there = i; body = e })
          (subst (RFact r (w'.replica r)) e ((facts_reach p w' q').said m r i f))
  body_fit m i (Drops v bs) e = drop_fit p limits.some_replica w w' q q' step room before m v bs i e
  body_fit m i _ e = tt

  may_send : NodesExist p w' → AllMaySend w'
  may_send n m i = record { from = numbered p limits m.from (n.from m i); to = numbered p limits m.to (n.to m i); body = body_fit m i m.body refl }

-- ---- the induction

module _ (p : Plan) (limits : PlanIsWithinLimits p) where
  record Sent (w : World) : Type 0 where
    reach : Reach p w
    nodes : NodesExist p w
    all : AllMaySend w

  after_event : (w : World) (e : Event) → Sent w → Sent (after p w e)
  after_event w e s = record { reach = reach'; nodes = nodes'; all = go (events_move p w e) }
    where
      reach' : Reach p (after p w e)
      reach' = happens_reach p first_world w (after p w e) s.reach (after_happens p w e)

      nodes' : NodesExist p (after p w e)
      nodes' = exists_stays p w (after p w e) s.reach s.nodes (after_happens p w e)

      go : EventOutcome p w e → AllMaySend (after p w e)
      go (Not_enabled n z) = subst AllMaySend (sym z) s.all
      go (Refused v n full z) = subst AllMaySend (sym z) s.all
      go (Moved v n room z) = may_send p limits w (after p w e) s.reach reach' (after_happens p w e) room s.all nodes'

  after_events : (events : List Event) (w : World) → Sent w → Sent (replay_from p w events)
  after_events [] w s = s
  after_events (e ∷ events) w s = after_events events (after p w e) (after_event w e s)

  would_send : (w : World) → Sent w → (e : Event) (v : Move) → enabled p w e ≡ Some v → length w.mail < mail_limit → (m : Envelope) → IsIn m v.sent → MaySend m
  would_send w s e v q room m i = go (events_move p w e)
    where
      go : EventOutcome p w e → MaySend m
      go (Not_enabled n z) = cc
      go (Refused u n full z) = absurd (omega (arith, full, room))
      go (Moved u n r z) = let f : v ≡ u = cc in
          (after_event w e s).all m (subst (λ l. IsIn m l) (sym (ap (λ (x : World). x.mail) z))
          (IsIn-right m w.mail u.sent (subst (λ (x : Move). IsIn m x.sent) f i)))

pub envelopes_have_frames : EnvelopesHaveFrames
envelopes_have_frames p limits events =
    let s = after_events p limits events first_world (record { reach = (nodes_exist p []).0; nodes = (nodes_exist p []).1; all = λ m i. absurd i }) in
    record { mail = s.all; sent = would_send p limits (replay_from p first_world events) s }

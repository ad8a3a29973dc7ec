-- All contents of an execution in the mail are equal.
use Rattle.std.proofs.Common.{◌≡◌, ℕ, ◌<◌, inl, inr, refl, ap, sym, ◌∙◌, subst, List, [], ◌∷◌, Option, Some, None}
use Rattle.std.specs.Option.{option_or}
use Rattle.protocol.specs.Words.{Exec, Envelope, Body, Content, Choice, Abandon, ToCommit, Prepare, Finalize, Decide, Told, Fenced, Kept}
use Rattle.protocol.specs.Lists.{IsIn}
use Rattle.protocol.specs.Replica.Taken.{Handled}
use Rattle.protocol.specs.Client.State.{CountedVote}
use Rattle.protocol.specs.Client.Deciding.{content_for}
use Rattle.protocol.specs.Client.State.Phase.{Prepared}
use Rattle.protocol.specs.Warden.State.{WardenState, Round, ToldAnswer, Proposal, Parcel}
use Rattle.protocol.specs.Warden.Recovery.{fixed, with_content, told_content}
use Rattle.protocol.specs.World.State.{Plan, World, rules, warden_rules, first_world}
use Rattle.protocol.specs.World.Decided.{HasContent, WasSent}
use Rattle.protocol.proofs.ListsLemmas.{at_same, IsIn-right}
use Rattle.law_steps.proofs.ClientActs.{ClientAct, IsQuiet}
use Rattle.law_steps.proofs.ClientActs.ClientAct.{Quiet, Advances, Prepares, Counts, Proposes, Accepts, Decides, Gives_up, Learns}
use Rattle.law_steps.proofs.Reach.{Step, Reach, ByClientAct, ByWardenAct, GotAt, HeardAt}
use Rattle.law_steps.proofs.Reach.From.{Next}
use Rattle.law_steps.proofs.KnownLemmas.{Took, commit_taken, cast_taken}
use Rattle.law_steps.proofs.FencedFacts.{kept_voted}
use Rattle.law_steps.proofs.MailLemmas.{took_reach, taking_cases}
use Rattle.law_steps.proofs.ReplicaFacts.{RFact}
use Rattle.law_steps.proofs.WardenFacts.{WFact, round_found}
use Rattle.law_steps.proofs.Origin.{Origin, origin}
use Rattle.law_steps.proofs.SendingLemmas.{parcel_body}
use Rattle.law_steps.proofs.Origin.Origin.{Old, Of_replica, Of_client, Of_warden}
use Rattle.law_steps.proofs.ClientSent.{quiet_not, in_single, in_none}
use Rattle.law_steps.proofs.AlwaysLemmas.{always}
use Rattle.law_steps.proofs.Induction.{replica_in_step, on_worlds}
use Rattle.law_safety.specs.Invariants.{OneContent, OneContentOf}
use Rattle.law_safety.proofs.ChoiceOfTolds.{chosen}
use Rattle.law_safety.proofs.LocksLemmas.{sent_grows}
use Rattle.law_safety.proofs.ClientEvidence.{evident_reach}
use Rattle.law_safety.proofs.WardenEvidence.{ward_reach}
use Rattle.law_safety.proofs.WardenSent.{ward_decided}
use Rattle.law_safety.proofs.OneProposal.{one_reach}

-- each content in the mail is that of a Prepare
pub record Prepared_contents (w : World) : Type 0 where
  pub from : (b : Body) (x : Exec) (k : Content) → HasContent b x k → WasSent w b → WasSent w (Prepare x k)

told_content_from : (ts : List ToldAnswer) (k : Content) → told_content ts ≡ Some k → (t : ToldAnswer) × IsIn t ts × (t.content ≡ Some k)
told_content_from [] k e = cc
told_content_from (t ∷ ts) k e = go (told_content_from ts k) t.content refl e
  where
    go : (told_content ts ≡ Some k → (t : ToldAnswer) × IsIn t ts × (t.content ≡ Some k)) → (o : Option Content) → t.content ≡ o →
        option_or o (told_content ts) ≡ Some k → (u : ToldAnswer) × IsIn u (t ∷ ts) × (u.content ≡ Some k)
    go ih (Some c) f e = (t, inl refl, f ∙ e)
    go ih None f e = let m = ih e in (m.0, inr m.1, m.2)

with_content_from : (c : Choice) (o : Option Content) (k : Content) → (with_content c o).content ≡ Some k → o ≡ Some k
with_content_from ToCommit (Some l) k e = e
with_content_from ToCommit None k e = cc
with_content_from Abandon o k e = cc

fixed_content : (ts : List ToldAnswer) (k : Content) → (fixed ts).content ≡ Some k → told_content ts ≡ Some k
unfolding fixed
fixed_content ts k e = with_content_from (chosen ts) (told_content ts) k e

content_for_is : (k l : Content) (d : Choice) → content_for k d ≡ Some l → k ≡ l
content_for_is k l ToCommit e = cc
content_for_is k l Abandon e = cc

-- what a replica has after a step was in the mail before it
took_before : (p : Plan) (w w' : World) → Reach p w → Step p w w' → (r : ℕ) (m : Envelope) → IsIn m (w'.replica r) → IsIn m w.mail
took_before p w w' q st r m = replica_in_step p w w' st (λ j h. IsIn m h → IsIn m w.mail)
    (λ s k j. elim (taking_cases (w.replica s.r) s.m m j) [ inl z ↦ subst (λ (y : Envelope). IsIn y w.mail) (sym z) s.in_mail | inr i ↦ k i ])
    r (λ i. ((took_reach p w q).took r m i).0)

module _ (p : Plan) (pos : 0 < p.replicas) (w w' : World) (q : Reach p w) (st : Step p w w') (c : Prepared_contents w) where
  grown : (x : Exec) (k : Content) → WasSent w (Prepare x k) → WasSent w' (Prepare x k)
  grown x k t = sent_grows p w w' st _ t

  -- what a replica took carries a content that was in the mail
  took_content : (r : ℕ) (x : Exec) (k : Content) → Took (w.replica r) x k → WasSent w (Prepare x k)
  took_content r x k t = c.from t.0.body x k t.2 (record { envelope = t.0; there = ((took_reach p w q).took r t.0 t.1).0; body = refl })

  client_content : (cs : ByClientAct p w w') (b : Body) (x : Exec) (k : Content) → IsIn b cs.sent → HasContent b x k → WasSent w' b → WasSent w' (Prepare x k)
  client_content cs b x k i h t = go cs.act
    where
      not_quiet : (b : Body) → HasContent b x k → IsQuiet b → ⊥
      not_quiet (Prepare y l) h z = z
      not_quiet (Finalize y v d o) h z = z
      not_quiet (Decide y d o) h z = z
      not_quiet (Told y v vt ac de o) h z = z
      not_quiet (Fenced v b cs vs) h z = z
      not_quiet _ h z = h

      ev : (l : Content) (vs : List CountedVote) (o : Option Choice) (acs : List ℕ) → (w.client cs.c).phase ≡ Prepared l vs o acs →
          WasSent w' (Prepare (w.client cs.c).exec l)
      ev l vs o acs a = grown _ l ((evident_reach p pos w q cs.c).phase l vs o acs a).prepare

      go : ClientAct (rules p cs.c) (GotAt w cs.c) (w.client cs.c) cs.state cs.sent → WasSent w' (Prepare x k)
      go (Quiet act) = absurd (quiet_not cs.sent b (not_quiet b h) act.quiet i)
      go (Advances act) = absurd (in_none cs.sent b act.silent i)
      go (Prepares act) = let z = in_single cs.sent _ b act.sends i in let h2 : HasContent (Prepare (w.client cs.c).exec act.content) x k = subst (λ y. HasContent y x k) z h in subst (λ y. WasSent w' y) (z ∙ (let a = h2.0 in let e2 = h2.1 in cc)) t
      go (Counts act) = absurd (in_none cs.sent b act.silent i)
      go (Proposes act) = let z = in_single cs.sent _ b act.sends i in let h2 : HasContent (Finalize (w.client cs.c).exec 0 act.choice (content_for act.content act.choice)) x k = subst (λ y. HasContent y x k) z h in let same : act.content ≡ k = content_for_is act.content k act.choice h2.1 in subst (λ y. WasSent w' (Prepare y k)) h2.0 (subst (λ y. WasSent w' (Prepare (w.client cs.c).exec y)) same (ev act.content act.votes None act.accepts act.before))
      go (Accepts act) = absurd (in_none cs.sent b act.silent i)
      go (Decides act) = let z = in_single cs.sent _ b act.sends i in let h2 : HasContent (Decide (w.client cs.c).exec act.choice (content_for act.content act.choice)) x k = subst (λ y. HasContent y x k) z h in let same : act.content ≡ k = content_for_is act.content k act.choice h2.1 in subst (λ y. WasSent w' (Prepare y k)) h2.0 (subst (λ y. WasSent w' (Prepare (w.client cs.c).exec y)) same (ev act.content act.votes act.proposal act.accepts act.before))
      go (Gives_up act) = let z = in_single cs.sent _ b act.sends i in let h2 : HasContent (Decide (w.client cs.c).exec Abandon None) x k = subst (λ y. HasContent y x k) z h in let e2 = h2.1 in cc
      go (Learns act) = absurd (in_none cs.sent b act.silent i)

  -- what a warden's round proposes
  round_content : (ws : ByWardenAct p w w') (a : Round) → IsIn a (w'.warden ws.k).rounds → (d : Choice) (k : Content) →
      a.proposal ≡ Some (record { choice = d; content = Some k }) → WasSent w' (Prepare a.exec k)
  round_content ws a i d k e =
      let ev = (ward_reach p pos w' (Next w w' q st) ws.k).round a i in
      let f = ev.fixed (record { choice = d; content = Some k }) e in
      let m = told_content_from a.tolds k (fixed_content a.tolds k (sym (ap (λ (y : Proposal). y.content) f.0))) in
      let g : Took (w'.replica m.0.replica) a.exec k = (ev.told m.0 m.1).1.took k m.2 in
      grown a.exec k (took_content m.0.replica a.exec k (subst (λ (z : ℕ → Handled). Took (z m.0.replica) a.exec k) ws.replica g))

  proposal_is : (y : Proposal) (d : Choice) (k : Content) → y.choice ≡ d → y.content ≡ Some k → Some y ≡ Some (record { choice = d; content = Some k })
  proposal_is y d k e f = rw (← e, ← f)

  warden_content : (ws : ByWardenAct p w w') (a : Parcel) (b : Body) (x : Exec) (k : Content) → IsIn a ws.sent → b ≡ parcel_body a →
      WFact p.wardens ws.k (w'.warden ws.k) b → HasContent b x k → WasSent w' (Prepare x k)
  warden_content ws a (Finalize y v d o) x k i z f h = let g = round_found y v (w'.warden ws.k).rounds f.1.0 f.1.1 in
      subst (λ u. WasSent w' (Prepare u k)) (g.1 ∙ h.0) (round_content ws f.1.0 g.0 d k (f.1.2 ∙ ap (λ (u : Option Content). Some (record { choice = d; content = u })) h.1))
  warden_content ws a (Decide y d o) x k i z f h = let r = ward_decided (warden_rules p ws.k) (HeardAt w ws.k) (w.warden ws.k) ws.state ws.sent ws.act a y d o i z in
      let here : IsIn r.0 (w'.warden ws.k).rounds = subst (λ (g : ℕ → WardenState). IsIn r.0 (g ws.k).rounds) (sym ws.warden) (subst (λ (g : WardenState). IsIn r.0 g.rounds) (sym (at_same ws.k ws.state w.warden)) r.1) in
      subst (λ u. WasSent w' (Prepare u k)) (r.2 ∙ h.0) (round_content ws r.0 here d k (r.3.1 ∙ proposal_is r.3.0 d k r.3.2 (r.3.4 ∙ h.1)))
  warden_content ws a (Prepare y l) x k i z f h = absurd f
  warden_content ws a (Told y v vt ac de o) x k i z f h = absurd f
  warden_content ws a (Fenced v b cs vs) x k i z f h = absurd f
  warden_content ws a _ x k i z f h = absurd h

  taken : (r : ℕ) (x : Exec) (k : Content) → Took (w'.replica r) x k → WasSent w' (Prepare x k)
  taken r x k t = grown x k (c.from t.0.body x k t.2 (record { envelope = t.0; there = took_before p w w' q st r t.0 t.1; body = refl }))

  replica_content : (r : ℕ) (b : Body) (x : Exec) (k : Content) → RFact r (w'.replica r) b → HasContent b x k → WasSent w' (Prepare x k)
  replica_content r (Told y v vt ac de o) x k f h = let t : Took (w'.replica r) y k = f.took k h.1 in
      grown x k (subst (λ z. WasSent w (Prepare z k)) h.0 (c.from t.0.body y k t.2 (record { envelope = t.0; there = took_before p w w' q st r t.0 t.1; body = refl })))
  replica_content r (Fenced v b cs vs) x k f (inl i) = taken r x k (commit_taken (w'.replica r) (record { exec = x; content = k }) (f.committed _ i).0)
  replica_content r (Fenced v b cs vs) x k f (inr i) =
      let c = kept_voted f.list v (record { exec = x; content = k }) (subst (λ (l : List Kept). IsIn (record { exec = x; content = k }) l) f.answer.voted i) in
      let t = cast_taken f.list c.0 c.1 in
      let e : c.0.exec ≡ x = ap (λ (y : Kept). y.exec) (sym c.2) in let g : c.0.content ≡ k = ap (λ (y : Kept). y.content) (sym c.2) in
      taken r x k (t.0, subst (λ (l : Handled). IsIn t.0 l) (sym f.answer.split) (IsIn-right t.0 f.answer.later _ (inr t.1)), subst (λ (y : Exec). HasContent t.0.body y k) e (subst (λ (y : Content). HasContent t.0.body c.0.exec y) g t.2))
  replica_content r (Prepare y l) x k f h = absurd f
  replica_content r (Finalize y v d o) x k f h = absurd f
  replica_content r (Decide y d o) x k f h = absurd f
  replica_content r _ x k f h = absurd h

  contents_step : (b : Body) (x : Exec) (k : Content) → HasContent b x k → WasSent w' b → WasSent w' (Prepare x k)
  contents_step b x k h t = go (origin p w w' q st b t)
    where
      go : Origin p w w' b → WasSent w' (Prepare x k)
      go (Old z) = grown x k (c.from b x k h z)
      go (Of_client cs i) = client_content cs b x k i h t
      go (Of_warden ws a i z f) = warden_content ws a b x k i z f h
      go (Of_replica r f) = replica_content r b x k f h

pub contents_reach : (p : Plan) → 0 < p.replicas → (w : World) → Reach p w → Prepared_contents w
contents_reach p pos = on_worlds p first_world Prepared_contents (record { from = λ b x k h t. absurd t.there })
    (λ w w' q st c. record { from = contents_step p pos w w' q st c })

-- all Prepares of an execution carry one content
pub same_prepared : (p : Plan) (w : World) → Reach p w → (x : Exec) (k l : Content) → WasSent w (Prepare x k) → WasSent w (Prepare x l) → k ≡ l
same_prepared p w q x k l a b = (one_reach p w q).prepare a.envelope b.envelope x k l a.there b.there a.body b.body

pub one_content : OneContent
one_content = always OneContentOf (λ p some w q x b c k l s t h g. same_prepared p w q x k l ((contents_reach p some w q).from b x k h s) ((contents_reach p some w q).from c x l g t))

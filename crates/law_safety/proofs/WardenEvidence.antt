-- What a warden counted was sent by replicas, and what it proposed and decided it sent.
use Rattle.std.proofs.Common.{◌≡◌, ℕ, ◌<◌, ◌≤◌, ◌⊎◌, inl, inr, refl, sym, ◌∙◌, subst, true, false, Bool, List, [], ◌∷◌, ◌++◌, Option, Some, None, length, arith}
use Rattle.std.specs.Prelude.{flat_map, suc, map}
use Rattle.std.specs.Bool.{then_some}
use Rattle.std.specs.Option.{option_or}
use Rattle.std.proofs.lemmas.List.{length-append}
use Rattle.protocol.specs.Words.{Exec, Replica, Warden, Envelope, Body, Content, Choice, Finalize, Decide, Told, same_exec, Version}
use Rattle.protocol.specs.Lists.{IsIn, upto}
use Rattle.protocol.specs.Replica.Taken.{Handled}
use Rattle.protocol.specs.Replica.Acceptor.{decided, choice_for}
use Rattle.protocol.specs.Quorums.{quorum, HasNoRepeats}
use Rattle.protocol.specs.Warden.State.{WardenState, Round, ToldAnswer, Proposal, DecidedProposal, Parcel, FencedAnswer, Truncation}
use Rattle.protocol.specs.Warden.Recovery.{with_accept, recover, fixed, to_client}
use Rattle.protocol.specs.Warden.Truncation.{drop_sent}
use Rattle.protocol.specs.Warden.State.Parcel.{To_all}
use Rattle.protocol.specs.World.State.{Plan, World, warden_rules}
use Rattle.protocol.specs.World.Events.{parcel}
use Rattle.protocol.specs.World.Decided.{WasSent}
use Rattle.protocol.proofs.NamesLemmas.{exec_is}
use Rattle.protocol.proofs.ListsLemmas.{IsIn-left, IsIn-right, IsIn-cases, map_in, upto_in}
use Rattle.protocol.proofs.DistinctLemmas.{distinct_more, distinct_map_more}
use Rattle.law_steps.proofs.FencedFacts.{FencedFact, fenced_more}
use Rattle.law_steps.proofs.WardenActs.{WardenAct, told_round}
use Rattle.law_steps.proofs.WardenActs.WardenAct.{Rests, Asks, Counts_told, Counts_accepted, Begins_truncation, Counts_fenced, Ends_truncation}
use Rattle.law_steps.proofs.Reach.{Step, Reach, ByWardenAct, HeardAt}
use Rattle.law_steps.proofs.Reach.Step.{Warden_acts}
use Rattle.law_steps.proofs.MailLemmas.{took_reach}
use Rattle.law_steps.proofs.ReplicaFacts.{RFact, ToldFact, AcceptedFact, facts_reach, fact_cons}
use Rattle.law_steps.proofs.WardenFacts.{round_found, put_in}
use Rattle.law_steps.proofs.Induction.{on_wardens}
use Rattle.law_safety.proofs.ClientEvidence.{absent_id, accepted_fact_grows}
use Rattle.law_safety.proofs.LocksLemmas.{sent_grows, replica_grows}

-- what a told part stands for
abbrev pub PartFact : ℕ → World → Exec → ℕ → ToldAnswer → Type 0
PartFact n w x v t = ((0 < t.replica) × (t.replica ≤ n)) × ToldFact (w.replica t.replica) x v t.vote t.accepted t.decided t.content

-- what a round has evidence of
pub record RoundEvidence (n : ℕ) (w : World) (a : Round) : Type 0 where
  pub told : (t : ToldAnswer) → IsIn t a.tolds → PartFact n w a.exec a.view t
  pub tellers : HasNoRepeats (map (λ (t : ToldAnswer). t.replica) a.tolds)
  pub accept : (j : ℕ) → IsIn j a.accepts → ((0 < j) × (j ≤ n)) × AcceptedFact (w.replica j) a.exec a.view
  pub accepters : HasNoRepeats a.accepts
  pub fixed : (y : Proposal) → a.proposal ≡ Some y → (y ≡ fixed a.tolds) × (quorum n ≤ length a.tolds)
  pub proposed : (y : Proposal) → a.proposal ≡ Some y → WasSent w (Finalize a.exec a.view y.choice y.content)

-- what a counted Fenced answer stands for, and the answers of a truncation
abbrev pub FencedPartFact : ℕ → World → Version → FencedAnswer → Type 0
FencedPartFact n w v a = ((0 < a.replica) × (a.replica ≤ n)) × FencedFact (w.replica a.replica) v a.base a.committed a.voted

pub record TruncEvidence (n : ℕ) (w : World) (t : Truncation) : Type 0 where
  pub answer : (a : FencedAnswer) → IsIn a t.answers → FencedPartFact n w t.w a
  pub answerers : HasNoRepeats (map (λ (a : FencedAnswer). a.replica) t.answers)

pub record WardEvident (n : ℕ) (w : World) (s : WardenState) : Type 0 where
  pub round : (a : Round) → IsIn a s.rounds → RoundEvidence n w a
  pub decision : (d : DecidedProposal) → IsIn d s.decisions → WasSent w (Decide d.exec d.proposal.choice d.proposal.content)
  pub trunc : (t : Truncation) → IsIn t s.truncations → TruncEvidence n w t

fenced_grows : (p : Plan) (w w' : World) → Step p w w' → (v : Version) (a : FencedAnswer) → FencedPartFact p.replicas w v a → FencedPartFact p.replicas w' v a
fenced_grows p w w' s v a f =
    (f.0, replica_grows p w w' s (λ h. FencedFact h v a.base a.committed a.voted) (λ h m g. fenced_more h m v a.base a.committed a.voted g) a.replica f.1)

part_grows : (p : Plan) (w w' : World) → Step p w w' → (x : Exec) (v : ℕ) (t : ToldAnswer) → PartFact p.replicas w x v t → PartFact p.replicas w' x v t
part_grows p w w' s x v t f = (f.0, replica_grows p w w' s (λ h. ToldFact h x v t.vote t.accepted t.decided t.content) (λ h m g. fact_cons t.replica h m (Told x v t.vote t.accepted t.decided t.content) g) t.replica f.1)

ward_grows : (p : Plan) (w w' : World) → Step p w w' → (s : WardenState) → WardEvident p.replicas w s → WardEvident p.replicas w' s
ward_grows p w w' st s t = record {
  round = λ a i. let e = t.round a i in record {
    told = λ u j. part_grows p w w' st a.exec a.view u (e.told u j);
    tellers = e.tellers;
    accept = λ j k. let f = e.accept j k in (f.0, accepted_fact_grows p w w' st a.exec a.view j f.1);
    accepters = e.accepters;
    fixed = e.fixed;
    proposed = λ y f. sent_grows p w w' st _ (e.proposed y f);
  };
  decision = λ d i. sent_grows p w w' st _ (t.decision d i);
  trunc = λ c i. let e = t.trunc c i in record { answer = λ a j. fenced_grows p w w' st c.w a (e.answer a j); answerers = e.answerers };
}

ward_sent : (p : Plan) (w w' : World) (s : ByWardenAct p w w') → 0 < p.replicas → (b : Body) → IsIn (To_all b) s.sent → WasSent w' b
ward_sent p w w' s pos b i = let k = one s.sent i in record { envelope = k.0; there = subst (λ l. IsIn k.0 l) (sym s.mail) (IsIn-right k.0 w.mail _ k.1); body = k.2 }
  where
    one : (ps : List Parcel) → IsIn (To_all b) ps → (e : Envelope) × IsIn e (flat_map (parcel p.replicas (Warden s.k)) ps) × (e.body ≡ b)
    one [] i = absurd i
    one (c ∷ ps) (inl e) = (record { from = Warden s.k; to = Replica 1; body = b }, IsIn-left _ (parcel p.replicas (Warden s.k) c) _ (rw (← e) (map_in (λ r. record { from = Warden s.k; to = Replica r; body = b }) (upto p.replicas) 1 (upto_in p.replicas 1 (omega arith) (omega (arith, pos))))), refl)
    one (c ∷ ps) (inr i) = let k = one ps i in (k.0, IsIn-right k.0 (parcel p.replicas (Warden s.k) c) _ k.1, k.2)

none_some : {A : Type 0} (a : A) → None ≡ Some a → ⊥
none_some a e = cc

some_is : {A : Type 0} {a b : A} → Some a ≡ Some b → a ≡ b
some_is e = cc

act_ward : (p : Plan) (w w' : World) → Reach p w → Step p w w' → (k : ℕ) (s : WardenState) (sent : List Parcel) →
    ((b : Body) → IsIn (To_all b) sent → WasSent w' b) → WardenAct (warden_rules p k) (HeardAt w k) (w.warden k) s sent →
    WardEvident p.replicas w' (w.warden k) → WardEvident p.replicas w' s
unfolding recover
act_ward p w w' q st k s sent new (Rests act) t = rw act.state t
act_ward p w w' q st k s sent new (Asks act) t = rw act.state (record {
  round = λ a i. elim i [ inl z ↦ rw z (record { told = λ t i. absurd i; tellers = tt; accept = λ j i. absurd i; accepters = tt; fixed = λ y f. cc; proposed = λ y f. cc }) | inr j ↦ t.round a j ];
  decision = t.decision;
  trunc = t.trunc;
})
act_ward p w w' q st k s sent new (Counts_told act) t = rw act.state (record {
  round =
      λ b i. elim (put_in act.exec act.view (told_round act.round act.told act.proposal) (w.warden k).rounds b i) [ inl z ↦ rw z fresh | inr j ↦ t.round b j ];
  decision = t.decision;
  trunc = t.trunc;
})
  where
    choice_of : ((act.proposal ≡ None) × (sent ≡ [])) ⊎ ((act.proposal ≡ Some (fixed (act.round.tolds ++ act.told ∷ []))) × (quorum p.replicas ≤ suc (length act.round.tolds)) × (sent ≡ To_all (Finalize act.exec act.view (fixed (act.round.tolds ++ act.told ∷ [])).choice (fixed (act.round.tolds ++ act.told ∷ [])).content) ∷ [])) →
        (y : Proposal) → act.proposal ≡ Some y →
        ((y ≡ fixed (act.round.tolds ++ act.told ∷ [])) × (quorum p.replicas ≤ length (act.round.tolds ++ act.told ∷ []))) × WasSent w' (Finalize act.round.exec act.round.view y.choice y.content)
    choice_of (inl z) y m = absurd (let n = z.0 in let k : None ≡ Some y = sym n ∙ m in none_some y k)
    choice_of (inr z) y m = let g = round_found act.exec act.view (w.warden k).rounds act.round act.found in let e1 : y ≡ fixed (act.round.tolds ++ act.told ∷ []) = (let n = z.0 in some_is (sym m ∙ n)) in
        ((e1, (let l = z.1 in rw length-append (omega (arith, l)))), rw (e1, g.1, g.2) (new (Finalize act.exec act.view (fixed (act.round.tolds ++ act.told ∷ [])).choice (fixed (act.round.tolds ++ act.told ∷ [])).content) (rw z.2 (inl refl))))

    fresh : RoundEvidence p.replicas w' (told_round act.round act.told act.proposal)
    fresh = let g = round_found act.exec act.view (w.warden k).rounds act.round act.found in let old = t.round act.round g.0 in record {
      told = λ y i. elim (IsIn-cases y act.round.tolds (act.told ∷ []) i) [ inl j ↦ old.told y j | inr j ↦ elim j [ inl z ↦ rw (z, g.1, g.2) (part_grows p w w' st act.exec act.view act.told (act.range, subst (RFact act.told.replica (w.replica act.told.replica)) act.got.4 ((facts_reach p w q).said act.got.0 act.told.replica act.got.1 act.got.3))) | inr z ↦ absurd z ] ];
      tellers = distinct_map_more (λ (y : ToldAnswer). y.replica) act.round.tolds act.told old.tellers act.fresh;
      accept = λ j i. absurd i;
      accepters = tt;
      fixed = λ y m. (choice_of act.outcome y m).0;
      proposed = λ y m. (choice_of act.outcome y m).1;
    }
act_ward p w w' q st k s sent new (Counts_accepted act) t = record {
  round = λ b i. elim (put_in act.exec act.view (with_accept act.round act.proposal act.replica) (w.warden k).rounds b (rw act.rounds at i)) [ inl z ↦ rw z fresh | inr m ↦ t.round b m ];
  decision = λ d i. decisions act.outcome d i;
  trunc = λ c i. t.trunc c (rw act.truncations at i);
}
  where
    fresh : RoundEvidence p.replicas w' (with_accept act.round act.proposal act.replica)
    fresh = let g = round_found act.exec act.view (w.warden k).rounds act.round act.found in let old = t.round act.round g.0 in record {
      told = old.told;
      tellers = old.tellers;
      accept = λ z i. elim (IsIn-cases z act.round.accepts (act.replica ∷ []) i) [ inl m ↦ old.accept z m | inr m ↦ elim m [ inl c ↦ rw (c, g.1, g.2) (act.range, accepted_fact_grows p w w' st act.exec act.view act.replica (subst (RFact act.replica (w.replica act.replica)) act.got.4 ((facts_reach p w q).said act.got.0 act.replica act.got.1 act.got.3))) | inr c ↦ absurd c ] ];
      accepters = distinct_more act.round.accepts act.replica old.accepters (absent_id act.replica act.round.accepts act.fresh);
      fixed = λ c m. old.fixed c (act.proposed ∙ m);
      proposed = λ c m. old.proposed c (act.proposed ∙ m);
    }

    decisions : ((s.decisions ≡ (w.warden k).decisions) × (sent ≡ [])) ⊎ ((s.decisions ≡ record { exec = act.exec; proposal = act.proposal } ∷ (w.warden k).decisions) × (quorum p.replicas ≤ suc (length act.round.accepts)) × (sent ≡ To_all (Decide act.exec act.proposal.choice act.proposal.content) ∷ to_client (warden_rules p k) act.exec (Decide act.exec act.proposal.choice act.proposal.content))) →
        (d : DecidedProposal) → IsIn d s.decisions → WasSent w' (Decide d.exec d.proposal.choice d.proposal.content)
    decisions (inl z) d i = t.decision d (rw z.0 at i)
    decisions (inr z) d i =
        elim (rw z.0 at i) [ inl c ↦ rw c (new (Decide act.exec act.proposal.choice act.proposal.content) (rw z.2 (inl refl))) | inr m ↦ t.decision d m ]
act_ward p w w' q st k s sent new (Begins_truncation act) t = rw act.state (record { round = t.round; decision = t.decision; trunc = λ c i. elim i [ inl z ↦ rw z (record { answer = λ a j. absurd j; answerers = tt }) | inr j ↦ t.trunc c j ] })
act_ward p w w' q st k s sent new (Counts_fenced act) t = rw act.state (record { round = t.round; decision = t.decision; trunc = λ d i. elim i [ inl z ↦ rw z fresh | inr j ↦ t.trunc d (rw act.truncations (inr j)) ] })
  where
    old : TruncEvidence p.replicas w' act.truncation
    old = t.trunc act.truncation (rw act.truncations (inl refl))

    here : FencedPartFact p.replicas w' act.truncation.w act.answer
    here = fenced_grows p w w' st act.truncation.w act.answer (act.range, subst (RFact act.answer.replica (w.replica act.answer.replica)) act.got.4 ((facts_reach p w q).said act.got.0 act.answer.replica act.got.1 act.got.3))

    fresh : TruncEvidence p.replicas w' (record { w = act.truncation.w; answers = act.truncation.answers ++ act.answer ∷ []; dropped = false })
    fresh = record {
      answer = λ b i. elim (IsIn-cases b act.truncation.answers (act.answer ∷ []) i) [ inl j ↦ old.answer b j | inr j ↦ elim j [ inl z ↦ rw z here | inr z ↦ absurd z ] ];
      answerers = distinct_map_more (λ (y : FencedAnswer). y.replica) act.truncation.answers act.answer old.answerers act.fresh;
    }
act_ward p w w' q st k s sent new (Ends_truncation act) t = rw act.state (record { round = t.round; decision = t.decision; trunc = λ d i. elim i [ inl z ↦ rw z fresh | inr j ↦ t.trunc d (rw act.truncations (inr j)) ] })
  where
    old : TruncEvidence p.replicas w' act.truncation
    old = t.trunc act.truncation (rw act.truncations (inl refl))

    fresh : TruncEvidence p.replicas w' (drop_sent act.truncation)
    fresh = record { answer = old.answer; answerers = old.answerers }

pub ward_reach : (p : Plan) → 0 < p.replicas → (w : World) → Reach p w → (k : ℕ) → WardEvident p.replicas w (w.warden k)
ward_reach p pos = on_wardens p (λ w k. WardEvident p.replicas w) (λ k. record { round = λ a i. absurd i; decision = λ d i. absurd i; trunc = λ t i. absurd i }) (λ w w' st k. ward_grows p w w' st)
    (λ w w' q s. act_ward p w w' q (Warden_acts s) s.k s.state s.sent (ward_sent p w w' s pos) s.act)

-- what a replica decided was sent
decided_taken : (h : Handled) (x : Exec) (d : Choice) → decided h x ≡ Some d → (m : Envelope) × IsIn m h × ((o : Option Content) × (m.body ≡ Decide x d o))
decided_taken [] x d e = cc
decided_taken (m ∷ h) x d e = go (λ f. decided_taken h x d f) (decided h x) refl e
  where
    new : (b : Body) → choice_for x b ≡ Some d → (o : Option Content) × (b ≡ Decide x d o)
    new (Decide y c o) e = hit (same_exec x y) refl e
      where
        hit : (t : Bool) → same_exec x y ≡ t → then_some t c ≡ Some d → (u : Option Content) × (Decide y c o ≡ Decide x d u)
        hit true f e = let g : x ≡ y = exec_is x y f in let k : c ≡ d = cc in (o, cc)
        hit false f e = cc
    new _ e = cc

    go : (decided h x ≡ Some d → (m : Envelope) × IsIn m h × ((o : Option Content) × (m.body ≡ Decide x d o))) → (o : Option Choice) → decided h x ≡ o →
        option_or o (choice_for x m.body) ≡ Some d → (n : Envelope) × IsIn n (m ∷ h) × ((o : Option Content) × (n.body ≡ Decide x d o))
    go ih (Some c) f e = let k = ih (f ∙ e) in (k.0, inr k.1, k.2)
    go ih None f e = (m, inl refl, new m.body e)

pub decided_sent : (p : Plan) (w : World) → Reach p w → (x : Exec) (d : Choice) (r : ℕ) → decided (w.replica r) x ≡ Some d →
    (o : Option Content) × WasSent w (Decide x d o)
decided_sent p w q x d r e = let t = decided_taken (w.replica r) x d e in let m = (took_reach p w q).took r t.0 t.1 in (t.2.0, record { envelope = t.0; there = m.0; body = t.2.1 })

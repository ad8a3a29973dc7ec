-- The one induction over the small steps of a world, which carries what all laws on decisions need.
use Rattle.std.proofs.Common.{◌≡◌, ℕ, ◌<◌, ◌⊎◌, inl, inr, refl, sym, ◌∙◌, subst, true, false, Bool, cond, List, ◌∷◌, Option, Some}
use Rattle.std.specs.List.{list_any}
use Rattle.protocol.specs.Words.{Exec, Version, Envelope, Body, Content, Kept, Commit, Final, Abandon, ToCommit, Prepare, Decide, Drops, no_version, before, BaseEntry}
use Rattle.protocol.specs.Lists.{IsIn}
use Rattle.protocol.specs.Replica.Taken.{Handled, takes, after_taking, dropped, is_above, version_of, base}
use Rattle.protocol.specs.Replica.Acceptor.{decided, commits}
use Rattle.protocol.specs.Replica.Votes.{casts, new_cast, verdict, vote, Cast, conflicts, conflicts_with_base}
use Rattle.protocol.specs.World.State.{Plan, World, rules, warden_rules}
use Rattle.protocol.specs.World.Decided.{WasSent, UpTo}
use Rattle.protocol.specs.Quorums.{Quorum}
use Rattle.protocol.specs.Warden.Base.{entries_of}
use Rattle.protocol.proofs.TestLemmas.{true_false}
use Rattle.protocol.proofs.ReplicaGrows.{decided_stays}
use Rattle.protocol.proofs.ListsLemmas.{IsIn-cases}
use Rattle.protocol.proofs.QuorumsLemmas.{quorums_meet}
use Rattle.law_steps.proofs.VotesLemmas.{new_vote, verdict_commit, earlier_settled, final_conflict, conflicts_both_ways, no_conflict_alike}
use Rattle.law_steps.proofs.MailLemmas.{took_reach}
use Rattle.law_steps.proofs.Reach.{Step, Reach, GotAt, HeardAt}
use Rattle.law_steps.proofs.Reach.From.{Begins, Next}
use Rattle.law_steps.proofs.ReplicaFacts.{well_reach, taking_reach}
use Rattle.law_steps.proofs.Origin.{Origin, origin}
use Rattle.law_steps.proofs.Origin.Origin.{Old, Of_replica, Of_client, Of_warden}
use Rattle.law_steps.proofs.TakenLemmas.{takes_above, cast_is, cast_above_none, dropped_taken, no_base}
use Rattle.law_steps.proofs.Induction.{replica_in_step}
use Rattle.law_safety.specs.Locks.{VotedCommit, Shut, AbandonLock}
use Rattle.law_safety.specs.Locks.Shut.{Conflicting}
use Rattle.law_safety.specs.Locks.AbandonLock.{All_shut}
use Rattle.law_safety.proofs.OneContent.{same_prepared}
use Rattle.law_safety.proofs.OneProposal.{one_reach}
use Rattle.law_safety.proofs.LocksLemmas.{locks_clash, cast_found, sent_grows, voted_prepared}
use Rattle.law_safety.proofs.LocksStay.{CommitGround, abandon_lock_stays, cast_sent}
use Rattle.law_safety.proofs.WardenEvidence.{decided_sent}
use Rattle.law_safety.proofs.Invariant.{Safe}
use Rattle.law_safety.proofs.InvariantStep.{proposals_step, abandoned_step, committed_step}
use Rattle.law_safety.proofs.BaseEntries.{HasEntry, Written, entry_conflict, dropped_conflict, dropped_sent}
use Rattle.law_safety.proofs.ShapedBodies.{commit_sent, client_no_drop, ward_dropped}
use Rattle.law_safety.proofs.TruncationSettles.{commit_prepared, apart_locks, CommitSent, each_or, is_commit, cut_now, base_holds, base_written}

module _ (p : Plan) (pos : 0 < p.replicas) where
  -- the content of a commit is that of the cast
  same_content : (w : World) (q : Reach p w) → (s : Safe p.replicas w) → (r : ℕ) (c : Cast) → IsIn c (casts (w.replica r)) → (l : Kept) →
      IsIn l (commits (w.replica r)) → l.exec ≡ c.exec → l.content ≡ c.content
  same_content w q s r c i l j e = same_prepared p w q c.exec l.content c.content
      (subst (λ (y : Exec). WasSent w (Prepare y l.content)) e (commit_prepared p pos w q s r l j)) (cast_sent p w q r c i)

  pub commit_ground : (w : World) → Reach p w → Safe p.replicas w → CommitGround w
  commit_ground w q s = record {
    agree = λ y o u a b. apart_locks p pos w q s y (s.abandoned y o a) (u, b);
    content = λ r c i l j e. same_content w q s r c i l j e;
    bases = s.bases;
  }

  -- two votes for Commit in conflict at one replica: one was decided Abandon there before the later vote, or the earlier one was dropped,
  -- and the later one is not in conflict with the base
  pub data SetApart (h : Handled) (c d : Cast) : Type 0 where
    Gone : decided h c.exec ≡ Some Abandon → SetApart h c d
    Passed_by : (g : Handled) → ((m : Envelope) → IsIn m g → IsIn m h) → UpTo c.exec.ver (dropped g) → before no_version c.exec.ver ≡ true →
        before (dropped g) d.exec.ver ≡ true → list_any (conflicts_with_base d.exec.ver d.content) (base g) ≡ false → SetApart h c d

  set_apart_more : (h : Handled) (m : Envelope) (c d : Cast) → SetApart h c d → SetApart (m ∷ h) c d
  set_apart_more h m c d (Gone e) = Gone (decided_stays h m c.exec Abandon e)
  set_apart_more h m c d (Passed_by g f u n a e) = Passed_by g (λ m i. inr (f m i)) u n a e

  abbrev pub IsTwo : Handled → Type 0
  IsTwo h = (c d : Cast) → IsIn c (casts h) → IsIn d (casts h) → c.vote ≡ Commit → d.vote ≡ Commit → conflicts c.exec.ver c.content d.exec.ver d.content ≡ true → SetApart h c d ⊎ SetApart h d c

  two_cons : (w : World) (q : Reach p w) → Safe p.replicas w → (r : ℕ) (m : Envelope) → takes (w.replica r) m.body ≡ true → IsTwo (w.replica r) →
      IsTwo (m ∷ w.replica r)
  two_cons w q s r m tk t c d i j v u f = go (IsIn-cases c (new_cast (w.replica r) (casts (w.replica r)) m.body) (casts (w.replica r)) i) (IsIn-cases d (new_cast (w.replica r) (casts (w.replica r)) m.body) (casts (w.replica r)) j)
    where
      older : (n o : Cast) → IsIn n (new_cast (w.replica r) (casts (w.replica r)) m.body) → IsIn o (casts (w.replica r)) → n.vote ≡ Commit → o.vote ≡ Commit →
          conflicts n.exec.ver n.content o.exec.ver o.content ≡ true → SetApart (m ∷ w.replica r) o n
      older n o i j v u f = let g = cast_is (w.replica r) m.body n i in
          let e : verdict (w.replica r) (casts (w.replica r)) n.exec n.content ≡ Commit = sym g.1 ∙ v in
          elim (earlier_settled (w.replica r) n.exec n.content o (well_reach p w q r) (λ l k z. same_content w q s r o j l k z) j u f e) [
            | inl a ↦ Gone (decided_stays (w.replica r) m o.exec Abandon a)
            | inr b ↦ Passed_by (w.replica r) (λ n i. inr i) b (cast_above_none (w.replica r) (taking_reach p w q r) o j)
                (subst (λ (b : Body). is_above (dropped (w.replica r)) (version_of b) ≡ true) g.0 (takes_above (w.replica r) m.body tk)) (verdict_commit (w.replica r) (casts (w.replica r)) n.exec n.content e).base
          ]

      go : IsIn c (new_cast (w.replica r) (casts (w.replica r)) m.body) ⊎ IsIn c (casts (w.replica r)) →
          IsIn d (new_cast (w.replica r) (casts (w.replica r)) m.body) ⊎ IsIn d (casts (w.replica r)) →
          SetApart (m ∷ w.replica r) c d ⊎ SetApart (m ∷ w.replica r) d c
      go (inr i) (inr j) = elim (t c d i j v u f) [ inl z ↦ inl (set_apart_more (w.replica r) m c d z) | inr z ↦ inr (set_apart_more (w.replica r) m d c z) ]
      go (inl i) (inr j) = inr (older c d i j v u f)
      go (inr i) (inl j) = inl (older d c j i u v (sym (conflicts_both_ways c.exec.ver d.exec.ver c.content d.content) ∙ f))
      go (inl i) (inl j) = let a = (cast_is (w.replica r) m.body c i).0 in let b = (cast_is (w.replica r) m.body d j).0 in let e : c.exec ≡ d.exec = cc in
          absurd (true_false (sym f ∙ (subst (λ (y : Exec). conflicts c.exec.ver c.content y.ver d.content ≡ false) e (no_conflict_alike c.exec.ver c.content d.content))))

  two_taking : (w : World) (q : Reach p w) → Safe p.replicas w → (r : ℕ) (m : Envelope) → IsTwo (w.replica r) → IsTwo (after_taking (w.replica r) m)
  unfolding after_taking
  two_taking w q s r m t = go (takes (w.replica r) m.body) refl
    where
      go : (z : Bool) → takes (w.replica r) m.body ≡ z → IsTwo (cond z (m ∷ w.replica r) (w.replica r))
      go true e = two_cons w q s r m e t
      go false e = t

  two_step : (w w' : World) (q : Reach p w) → Step p w w' → Safe p.replicas w → ((r : ℕ) → IsTwo (w.replica r)) → (r : ℕ) → IsTwo (w'.replica r)
  two_step w w' q st z t r = replica_in_step p w w' st (λ j. IsTwo) (λ s. two_taking w q z s.r s.m) r (t r)

  -- of two votes for Commit in conflict at one replica, Abandon of one is locked
  set_apart_lock : (w : World) (q : Reach p w) → Safe p.replicas w → (r : ℕ) (c d : Cast) → IsIn c (casts (w.replica r)) →
      conflicts d.exec.ver d.content c.exec.ver c.content ≡ true → SetApart (w.replica r) c d → AbandonLock p.replicas w c.exec
  set_apart_lock w q s r c d i f (Gone e) = let a = decided_sent p w q c.exec Abandon r e in s.abandoned c.exec a.0 a.1
  set_apart_lock w q s r c d i f (Passed_by g sub u n a e) =
      let mail : (m : Envelope) → IsIn m g → IsIn m w.mail = λ m j. ((took_reach p w q).took r m (sub m j)).0 in
      elim (s.cut (dropped g) (base g) (dropped_sent w g mail c.exec.ver n u) c.exec u) [
        | inr l ↦ l
        | inl k ↦ absurd (true_false (sym (dropped_conflict w s.bases g mail d.exec d.content a c.exec c.content k.0 k.1 (cast_sent p w q r c i) n u f) ∙ e))
      ]

  two_locked : (w : World) (q : Reach p w) → Safe p.replicas w → (r : ℕ) (c d : Cast) → IsIn c (casts (w.replica r)) → IsIn d (casts (w.replica r)) →
      conflicts c.exec.ver c.content d.exec.ver d.content ≡ true → SetApart (w.replica r) c d ⊎ SetApart (w.replica r) d c →
      AbandonLock p.replicas w c.exec ⊎ AbandonLock p.replicas w d.exec
  two_locked w q s r c d i j f (inl z) = inl (set_apart_lock w q s r c d i (conflicts_both_ways d.exec.ver c.exec.ver d.content c.content ∙ f) z)
  two_locked w q s r c d i j f (inr z) = inr (set_apart_lock w q s r d c j f z)

  abbrev pub AllTwo : World → Type 0
  AllTwo w = (r : ℕ) → IsTwo (w.replica r)

  -- a conflict with something committed locks Abandon
  pub conflict_locks : (w : World) (q : Reach p w) → Safe p.replicas w → AllTwo w → (x : Exec) (k : Content) → WasSent w (Prepare x k) →
      (y : Exec) (l : Content) → CommitSent w y → WasSent w (Prepare y l) → conflicts x.ver k y.ver l ≡ true → AbandonLock p.replicas w x
  conflict_locks w q s two x k t y l cy pr f =
      elim (each_or (Shut w x) (AbandonLock p.replicas w x) voters.members (λ u j. member u (voters.each u j))) [
        | inl g ↦ All_shut (record { members = voters.members; distinct = voters.distinct; ranged = voters.ranged; each = g; many = voters.many })
        | inr a ↦ a
      ]
    where
      voters : Quorum p.replicas (VotedCommit w y)
      voters = (s.committed y cy.0 cy.1).1

      member : (u : ℕ) → VotedCommit w y u → Shut w x u ⊎ AbandonLock p.replicas w x
      member u v =
          let c = cast_found y (casts (w.replica u)) Commit v in
          let same : l ≡ c.0.content =
          same_prepared p w q y l c.0.content pr (subst (λ (z : Exec). WasSent w (Prepare z c.0.content)) c.2 (cast_sent p w q u c.0 c.1)) in
          let g : conflicts x.ver k c.0.exec.ver c.0.content ≡ true =
          subst (λ (z : Content). conflicts x.ver k c.0.exec.ver z ≡ true) same (subst (λ (z : Exec). conflicts x.ver k z.ver l ≡ true) (sym c.2) f) in
          elim (is_commit (vote (w.replica u) x)) [
            | inr n ↦ inl (Conflicting n k t c.0 c.1 c.3 g cy.0 (subst (λ (z : Exec). WasSent w (Decide z ToCommit cy.0)) (sym c.2) cy.1))
            | inl e ↦
                let d = cast_found x (casts (w.replica u)) Commit e in
                let mine : k ≡ d.0.content =
                same_prepared p w q x k d.0.content t (subst (λ (z : Exec). WasSent w (Prepare z d.0.content)) d.2 (cast_sent p w q u d.0 d.1)) in
                let h : conflicts d.0.exec.ver d.0.content c.0.exec.ver c.0.content ≡ true = subst (λ (z : Content). conflicts d.0.exec.ver z c.0.exec.ver c.0.content ≡ true) mine (subst (λ (z : Exec). conflicts z.ver k c.0.exec.ver c.0.content ≡ true) (sym d.2) g) in
                elim (two_locked w q s u d.0 c.0 d.1 c.1 h (two u d.0 c.0 d.1 c.1 d.3 c.3 h)) [
                  | inl z ↦ inr (subst (λ (z : Exec). AbandonLock p.replicas w z) d.2 z)
                  | inr z ↦ absurd (apart_locks p pos w q s y (subst (λ (z : Exec). AbandonLock p.replicas w z) c.2 z) cy)
                ]
          ]

  -- a Final vote locks Abandon
  final_taking : (w : World) (q : Reach p w) → Safe p.replicas w → AllTwo w → (x : Exec) (r : ℕ) (m : Envelope) → IsIn m w.mail →
      vote (after_taking (w.replica r) m) x ≡ Some Final → AbandonLock p.replicas w x
  unfolding after_taking
  final_taking w q s two x r m i e = go (takes (w.replica r) m.body) e
    where
      at_base : (k : Content) → WasSent w (Prepare x k) → (b : BaseEntry) → IsIn b (base (w.replica r)) → conflicts_with_base x.ver k b ≡ true →
          AbandonLock p.replicas w x
      at_base k t b j f = go (before no_version (dropped (w.replica r))) refl
        where
          go : (z : Bool) → before no_version (dropped (w.replica r)) ≡ z → AbandonLock p.replicas w x
          go false n = absurd (subst (λ (bs : List BaseEntry). IsIn b bs) (no_base (w.replica r) n) j)
          go true n =
              let d = dropped_taken (w.replica r) n in
              let y = s.bases.written (dropped (w.replica r)) (base (w.replica r)) (record { envelope = d.0; there = ((took_reach p w q).took r d.0 d.1).0; body = d.2 }) b j in
              conflict_locks w q s two x k t y.exec y.content y.decision y.prepare (entry_conflict x k y.exec y.content b f y.entry)

      cons : vote (m ∷ w.replica r) x ≡ Some Final → AbandonLock p.replicas w x
      cons e = elim (new_vote (w.replica r) m x Final e) [
        | inl z ↦ s.final x r z
        | inr z ↦ elim (final_conflict (w.replica r) x z.0 z.2) [
          | inl l ↦ conflict_locks w q s two x z.0 (record { envelope = m; there = i; body = z.1 }) l.0.exec l.0.content (Some l.0.content, commit_sent p w q r l.0 l.1) (commit_prepared p pos w q s r l.0 l.1) l.2
          | inr b ↦ at_base z.0 (record { envelope = m; there = i; body = z.1 }) b.0 b.1 b.2
        ]
      ]

      go : (t : Bool) → vote (cond t (m ∷ w.replica r) (w.replica r)) x ≡ Some Final → AbandonLock p.replicas w x
      go true e = cons e
      go false e = s.final x r e

  final_before : (w w' : World) (q : Reach p w) → Step p w w' → Safe p.replicas w → AllTwo w → (x : Exec) (r : ℕ) → vote (w'.replica r) x ≡ Some Final →
      AbandonLock p.replicas w x
  final_before w w' q st s two x r =
      replica_in_step p w w' st (λ j h. vote h x ≡ Some Final → AbandonLock p.replicas w x) (λ t k. final_taking w q s two x t.r t.m t.in_mail) r (s.final x r)

  -- Drops
  module _ (w w' : World) (q : Reach p w) (st : Step p w w') (s : Safe p.replicas w) where
    grown_cut : (x : Exec) → CommitSent w x ⊎ AbandonLock p.replicas w x → CommitSent w' x ⊎ AbandonLock p.replicas w' x
    grown_cut x (inl c) = inl (c.0, sent_grows p w w' st _ c.1)
    grown_cut x (inr l) = inr (abandon_lock_stays p w w' q st (commit_ground w q s) x l)

    -- whatever Drop was sent, what is at or below its version was settled before
    settled_before : (v : Version) (bs : List BaseEntry) → WasSent w' (Drops v bs) → (x : Exec) → UpTo x.ver v → CommitSent w x ⊎ AbandonLock p.replicas w x
    settled_before v bs t x u = go (origin p w w' q st _ t)
      where
        go : Origin p w w' (Drops v bs) → CommitSent w x ⊎ AbandonLock p.replicas w x
        go (Old z) = s.cut v bs z x u
        go (Of_replica r f) = absurd f
        go (Of_client cs i) = absurd (client_no_drop (rules p cs.c) (GotAt w cs.c) (w.client cs.c) cs.state cs.sent cs.act v bs i)
        go (Of_warden ws a i e f) = let d = ward_dropped (warden_rules p ws.k) (HeardAt w ws.k) (w.warden ws.k) ws.state ws.sent ws.act a v bs i e in
            cut_now p pos w q s ws.k d.trunc d.there d.many d.all x (subst (λ (z : Version). UpTo x.ver z) d.version u)

    written_grown : (v : Version) (d : BaseEntry) → Written w v d → Written w' v d
    written_grown v d y = record { exec = y.exec; content = y.content; decision = (y.decision.0, sent_grows p w w' st _ y.decision.1); prepare = sent_grows p w w' st _ y.prepare; upto = y.upto; entry = y.entry }

    written_step : (v : Version) (bs : List BaseEntry) → WasSent w' (Drops v bs) → (d : BaseEntry) → IsIn d bs → Written w' v d
    written_step v bs t d j = written_grown v d (go (origin p w w' q st _ t))
      where
        go : Origin p w w' (Drops v bs) → Written w v d
        go (Old z) = s.bases.written v bs z d j
        go (Of_replica r f) = absurd f
        go (Of_client cs i) = absurd (client_no_drop (rules p cs.c) (GotAt w cs.c) (w.client cs.c) cs.state cs.sent cs.act v bs i)
        go (Of_warden ws a i e f) = let o = ward_dropped (warden_rules p ws.k) (HeardAt w ws.k) (w.warden ws.k) ws.state ws.sent ws.act a v bs i e in
            subst (λ (z : Version). Written w z d) (sym o.version) (base_written p pos w q s ws.k o.trunc o.there o.many o.all d (subst (λ (z : List BaseEntry). IsIn d z) o.bases j))

    holds_before : (v : Version) (bs : List BaseEntry) → WasSent w' (Drops v bs) → (y : Exec) (l : Content) → CommitSent w y → WasSent w (Prepare y l) →
        UpTo y.ver v → (e : BaseEntry) → IsIn e (entries_of y 1 l.writes) → HasEntry bs e
    holds_before v bs t y l c pr u e j = go (origin p w w' q st _ t)
      where
        go : Origin p w w' (Drops v bs) → HasEntry bs e
        go (Old z) = s.bases.holds v bs z y l c.0 c.1 pr u e j
        go (Of_replica r f) = absurd f
        go (Of_client cs i) = absurd (client_no_drop (rules p cs.c) (GotAt w cs.c) (w.client cs.c) cs.state cs.sent cs.act v bs i)
        go (Of_warden ws a i z f) = let o = ward_dropped (warden_rules p ws.k) (HeardAt w ws.k) (w.warden ws.k) ws.state ws.sent ws.act a v bs i z in
            subst (λ (z : List BaseEntry). HasEntry z e) (sym o.bases) (base_holds p pos w q s ws.k o.trunc o.there o.many o.all y l c pr (subst (λ (z : Version). UpTo y.ver z) o.version u) e j)

    holds_step : (v : Version) (bs : List BaseEntry) → WasSent w' (Drops v bs) → (y : Exec) (l : Content) (o : Option Content) →
        WasSent w' (Decide y ToCommit o) → WasSent w' (Prepare y l) → UpTo y.ver v → (e : BaseEntry) → IsIn e (entries_of y 1 l.writes) → HasEntry bs e
    holds_step v bs t y l o d pr u e j = elim (settled_before v bs t y u) [
      | inr a ↦ absurd (locks_clash p w' (Next w w' q st) (proposals_step p pos w w' q (commit_ground w q s) st s) y (abandon_lock_stays p w w' q st (commit_ground w q s) y a) (committed_step p pos w w' q (commit_ground w q s) st s y o d).0)
      | inl c ↦ prepared c
    ]
      where
        one : (k : Content) → WasSent w (Prepare y k) → l ≡ k
        one k z = (one_reach p w' (Next w w' q st)).prepare pr.envelope (sent_grows p w w' st _ z).envelope y l k pr.there (sent_grows p w w' st _ z).there pr.body (sent_grows p w w' st _ z).body

        some_voter : (P : ℕ → Type 0) → Quorum p.replicas P → (r : ℕ) × P r
        some_voter P a = let m = quorums_meet p.replicas P P a a in (m.0, m.1)

        prepared : CommitSent w y → HasEntry bs e
        prepared c = let r = some_voter (VotedCommit w y) (s.committed y c.0 c.1).1 in let k = voted_prepared p w q y Commit r.0 r.1 in
            holds_before v bs t y l c (subst (λ (z : Content). WasSent w (Prepare y z)) (sym (one k.0 k.1)) k.1) u e j

  -- the one induction
  pub both_reach : (w : World) → Reach p w → Safe p.replicas w × AllTwo w
  both_reach _ Begins = (
    record {
      proposals = record { commit = λ x v o t. absurd t.there; abandon = λ x v o t. absurd t.there; below = λ x v d o t. absurd t.there };
      abandoned = λ x o t. absurd t.there;
      committed = λ x o t. absurd t.there;
      final = λ x r e. cc;
      cut = λ v b t. absurd t.there;
      bases = record { holds = λ v b t. absurd t.there; written = λ v b t. absurd t.there };
    },
    λ r c d i. absurd i,
  )
  both_reach _ (Next w w' q st) = let b = both_reach w q in let s = b.0 in let c = commit_ground w q s in (
    record {
      proposals = proposals_step p pos w w' q c st s;
      abandoned = abandoned_step p pos w w' q c st s;
      committed = committed_step p pos w w' q c st s;
      final = λ x r e. abandon_lock_stays p w w' q st c x (final_before w w' q st s b.1 x r e);
      cut = λ v bs t x u. grown_cut w w' q st s x (settled_before w w' q st s v bs t x u);
      bases = record { holds = holds_step w w' q st s; written = written_step w w' q st s };
    },
    two_step w w' q st s b.1,
  )

  pub safe_reach : (w : World) → Reach p w → Safe p.replicas w
  safe_reach w q = (both_reach w q).0

-- When a truncation has its answers, what is at or below its version is settled, and its base holds what was committed there.
use Rattle.std.proofs.Common.{[], ◌≡◌, ℕ, ◌<◌, ◌≤◌, ◌⊎◌, ◌≢◌, inl, inr, refl, ap, sym, ◌∙◌, subst, true, false, Bool, cond, List, ◌∷◌, ◌++◌, Option, Some, None, length}
use Rattle.std.specs.Prelude.{map, flat_map, not}
use Rattle.std.specs.Option.{is_some}
use Rattle.std.specs.List.{list_any, list_all}
use Rattle.protocol.specs.Words.{Exec, Version, Envelope, BaseEntry, Body, Content, Kept, Vote, Commit, Tentative, Final, Choice, Abandon, ToCommit, Prepare, Decide, Drops, before, same_exec}
use Rattle.protocol.specs.Lists.{IsIn}
use Rattle.protocol.specs.Replica.Taken.{dropped, fence}
use Rattle.protocol.specs.Replica.Acceptor.{decided, commits}
use Rattle.protocol.specs.Replica.Votes.{casts, vote, Cast}
use Rattle.protocol.specs.Quorums.{quorum, Quorum}
use Rattle.protocol.specs.Warden.State.{DecidedProposal, FencedAnswer, Truncation, decision_on}
use Rattle.protocol.specs.Warden.Truncation.{named_committed, to_recover}
use Rattle.protocol.specs.Warden.Base.{put_entries, entries_of, kept_entries, decided_entries_of, decided_entries, base_of}
use Rattle.protocol.specs.World.State.{Plan, World}
use Rattle.protocol.specs.World.Decided.{UpTo, WasSent}
use Rattle.protocol.proofs.QuorumsLemmas.{named_quorum, quorums_meet}
use Rattle.protocol.proofs.NamesLemmas.{exec_is, up_to_trans}
use Rattle.protocol.proofs.ListsLemmas.{map_in, flat_map_in, all_in, IsIn-left, IsIn-right, IsIn-cases, IsIn-flat_map}
use Rattle.law_steps.proofs.KnownLemmas.{choice_cases, found}
use Rattle.law_steps.proofs.TakenLemmas.{IsIn-filter}
use Rattle.law_steps.proofs.FencedFacts.{Named}
use Rattle.law_steps.proofs.FencedFacts.Named.{As_committed, As_voted, As_abandoned, As_dropped}
use Rattle.law_steps.proofs.VotesLemmas.{any_true}
use Rattle.law_steps.proofs.MailLemmas.{took_reach}
use Rattle.law_steps.proofs.Reach.{Reach}
use Rattle.law_safety.specs.Bases.{IsNamedByAnswers}
use Rattle.law_safety.specs.Bases.IsNamedByAnswers.{As_committed as Names_committed, As_voted as Names_voted, Below_dropped}
use Rattle.law_safety.specs.Locks.{VotedCommit, Shut, AbandonLock}
use Rattle.law_safety.specs.Locks.Shut.{Fenced_out}
use Rattle.law_safety.specs.Locks.AbandonLock.{All_shut}
use Rattle.law_safety.proofs.OneContent.{same_prepared, contents_reach}
use Rattle.law_safety.proofs.LocksLemmas.{locks_clash, cast_found}
use Rattle.law_safety.proofs.BaseEntries.{HasEntry, Written}
use Rattle.law_safety.proofs.WardenEvidence.{ward_reach, decided_sent, FencedPartFact}
use Rattle.law_safety.proofs.Invariant.{Safe}
use Rattle.law_safety.proofs.ShapedBodies.{commit_sent, Shaped, shaped_reach}
use Rattle.law_safety.proofs.BaseLemmas.{entry_trans, puts_hold, puts_of}

pub is_commit : (o : Option Vote) → (o ≡ Some Commit) ⊎ (o ≢ Some Commit)
is_commit None = inr (λ e. cc)
is_commit (Some Commit) = inl refl
is_commit (Some Tentative) = inr (λ e. cc)
is_commit (Some Final) = inr (λ e. cc)

-- each member is shut, or there is something else
pub each_or : (P : ℕ → Type 0) (L : Type 0) (ms : List ℕ) → ((r : ℕ) → IsIn r ms → P r ⊎ L) → ((r : ℕ) → IsIn r ms → P r) ⊎ L
each_or P L [] f = inl (λ r i. absurd i)
each_or P L (m ∷ ms) f = elim (f m (inl refl)) [
  | inr l ↦ inr l
  | inl a ↦ elim (each_or P L ms (λ r i. f r (inr i))) [
    | inr l ↦ inr l
    | inl g ↦ inl (λ r i. elim i [ inl e ↦ subst P (sym e) a | inr j ↦ g r j ])
  ]
]

some_of : {A : Type 0} (o : Option A) → is_some o ≡ true → (a : A) × (o ≡ Some a)
some_of None e = cc
some_of (Some a) e = (a, refl)

-- committed, as far as what was sent tells
abbrev pub CommitSent : World → Exec → Type 0
CommitSent w x = (o : Option Content) × WasSent w (Decide x ToCommit o)

-- what is at or below a version is settled when its Drop is sent
module _ (p : Plan) (pos : 0 < p.replicas) (w : World) (q : Reach p w) (s : Safe p.replicas w) where
  pub apart_locks : (x : Exec) → AbandonLock p.replicas w x → CommitSent w x → ⊥
  apart_locks x a c = locks_clash p w q s.proposals x a (s.committed x c.0 c.1).0

  pub commit_prepared : (r : ℕ) (l : Kept) → IsIn l (commits (w.replica r)) → WasSent w (Prepare l.exec l.content)
  commit_prepared r l i = (contents_reach p pos w q).from (Decide l.exec ToCommit (Some l.content)) l.exec l.content (refl, refl) (commit_sent p w q r l i)

  took_sent : (r : ℕ) (m : Envelope) (b : Body) → IsIn m (w.replica r) → m.body ≡ b → WasSent w b
  took_sent r m b i e = record { envelope = m; there = ((took_reach p w q).took r m i).0; body = e }

  module _ (k : ℕ) (t : Truncation) (there : IsIn t (w.warden k).truncations) (many : quorum p.replicas ≤ length t.answers) where
    abbrev Answered : ℕ → Type 0
    Answered r = (a : FencedAnswer) × IsIn a t.answers × (a.replica ≡ r)

    fact : (a : FencedAnswer) → IsIn a t.answers → FencedPartFact p.replicas w t.w a
    fact a i = ((ward_reach p pos w q k).trunc t there).answer a i

    answerers : Quorum p.replicas Answered
    answerers =
        named_quorum (λ (a : FencedAnswer). a.replica) p.replicas t.answers ((ward_reach p pos w q k).trunc t there).answerers (λ a i. (fact a i).0) many

    -- each committed execution at or below the version is named
    pub named_fact : (x : Exec) → UpTo x.ver t.w → CommitSent w x → IsNamedByAnswers w t x
    named_fact x u c =
        let m = quorums_meet p.replicas _ _ answerers (s.committed x c.0 c.1).1 in
        by m.1.0 m.1.1 (subst (λ z. VotedCommit w x z) (sym m.1.2) m.2)
      where
        by : (a : FencedAnswer) → IsIn a t.answers → VotedCommit w x a.replica → IsNamedByAnswers w t x
        by a i v = go ((fact a i).1.voted (cast_found x (casts (w.replica a.replica)) Commit v).0 (cast_found x (casts (w.replica a.replica)) Commit v).1 (cast_found x (casts (w.replica a.replica)) Commit v).3 (subst (λ (y : Exec). UpTo y.ver t.w) (sym (cast_found x (casts (w.replica a.replica)) Commit v).2) u))
          where
            go : Named (w.replica a.replica) (fact a i).1.list a.base a.committed a.voted (cast_found x (casts (w.replica a.replica)) Commit v).0 →
                IsNamedByAnswers w t x
            go (As_committed l j e) = Names_committed a i l j (e ∙ (cast_found x (casts (w.replica a.replica)) Commit v).2)
            go (As_voted j) = Names_voted a i _ j (cast_found x (casts (w.replica a.replica)) Commit v).2
            go (As_abandoned e) = let d = decided_sent p w q x Abandon a.replica (subst (λ (y : Exec). decided (w.replica a.replica) y ≡ Some Abandon) (cast_found x (casts (w.replica a.replica)) Commit v).2 e) in absurd (apart_locks x (s.abandoned x d.0 d.1) c)
            go (As_dropped v' m j e u' z) = Below_dropped a i (fact a i).1.list (fact a i).1.answer (subst (λ (y : Version). UpTo x.ver y) z (subst (λ (y : Exec). UpTo y.ver v') (cast_found x (casts (w.replica a.replica)) Commit v).2 u'))

    module _ (all : list_all (λ x. is_some (decision_on (w.warden k) x)) (to_recover t.answers) ≡ true) where
      -- where an execution that the sender of an answer voted Commit on stands
      data Stand (x : Exec) : Type 0 where
        In_committed : (a : FencedAnswer) (c : Kept) → IsIn a t.answers → IsIn c a.committed → c.exec ≡ x → Stand x
        In_settled : (a : FencedAnswer) (c : Kept) (d : DecidedProposal) → IsIn a t.answers → IsIn c a.voted → c.exec ≡ x →
            decision_on (w.warden k) x ≡ Some d → Stand x
        In_abandoned : AbandonLock p.replicas w x → Stand x
        In_dropped : (a : FencedAnswer) (v : Version) (i : IsIn a t.answers) → WasSent w (Drops v a.base) → UpTo x.ver v → v ≡ dropped (fact a i).1.list →
            Stand x

      named : (x : Exec) → named_committed t.answers x ≡ true → Stand x
      named x e =
          let a = any_true (λ (a : FencedAnswer). list_any (λ (c : Kept). same_exec x c.exec) a.committed) t.answers e in
          let c = any_true (λ (c : Kept). same_exec x c.exec) a.0.committed a.2 in
          In_committed a.0 c.0 a.1 c.1 (sym (exec_is x c.0.exec c.2))

      voted_stand : (x : Exec) (a : FencedAnswer) (c : Kept) → IsIn a t.answers → IsIn c a.voted → c.exec ≡ x → Stand x
      voted_stand x a c i j e = go (named_committed t.answers x) refl
        where
          go : (z : Bool) → named_committed t.answers x ≡ z → Stand x
          go true f = named x f
          go false f =
              let in_all : IsIn x (flat_map (λ (b : FencedAnswer). map (λ (c : Kept). c.exec) b.voted) t.answers) = flat_map_in (λ (b : FencedAnswer). map (λ (c : Kept). c.exec) b.voted) t.answers a x i (subst (λ (y : Exec). IsIn y (map (λ (c : Kept). c.exec) a.voted)) e (map_in (λ (c : Kept). c.exec) a.voted c j)) in
              let d = some_of (decision_on (w.warden k) x) (all_in (λ y. is_some (decision_on (w.warden k) y)) (to_recover t.answers) x all (IsIn-filter (λ y. not (named_committed t.answers y)) _ x in_all (ap not f))) in
              In_settled a c d.0 i j e d.1

      stand : (x : Exec) → UpTo x.ver t.w → (a : FencedAnswer) → IsIn a t.answers → VotedCommit w x a.replica → Stand x
      stand x u a i v = go ((fact a i).1.voted c.0 c.1 c.3 (subst (λ (y : Exec). UpTo y.ver t.w) (sym c.2) u))
        where
          c : (c : Cast) × IsIn c (casts (w.replica a.replica)) × (c.exec ≡ x) × (c.vote ≡ Commit)
          c = cast_found x (casts (w.replica a.replica)) Commit v

          go : Named (w.replica a.replica) (fact a i).1.list a.base a.committed a.voted c.0 → Stand x
          go (As_committed l j e) = In_committed a l i j (e ∙ c.2)
          go (As_voted j) = voted_stand x a (record { exec = c.0.exec; content = c.0.content }) i j c.2
          go (As_abandoned e) = let d = decided_sent p w q x Abandon a.replica (subst (λ (y : Exec). decided (w.replica a.replica) y ≡ Some Abandon) c.2 e) in In_abandoned (s.abandoned x d.0 d.1)
          go (As_dropped v' m j e u' z) = In_dropped a v' i (took_sent a.replica m _ j e) (subst (λ (y : Exec). UpTo y.ver v') c.2 u') z

      settled_sent : (x : Exec) (d : DecidedProposal) → decision_on (w.warden k) x ≡ Some d → WasSent w (Decide x d.proposal.choice d.proposal.content)
      settled_sent x d e = let f = found (λ (y : DecidedProposal). y.exec) x (w.warden k).decisions d e in subst (λ (y : Exec). WasSent w (Decide y d.proposal.choice d.proposal.content)) f.1 ((ward_reach p pos w q k).decision d f.0)

      stand_cut : (x : Exec) → Stand x → CommitSent w x ⊎ AbandonLock p.replicas w x
      stand_cut x (In_committed a c i j e) = let g = ((fact a i).1.committed c j).0 in inl (Some c.content, subst (λ (y : Exec). WasSent w (Decide y ToCommit (Some c.content))) e (commit_sent p w q a.replica c g))
      stand_cut x (In_settled a c d i j e f) = elim (choice_cases d.proposal.choice) [
        | inl z ↦ inr (s.abandoned x d.proposal.content (subst (λ (y : Choice). WasSent w (Decide x y d.proposal.content)) z (settled_sent x d f)))
        | inr z ↦ inl (d.proposal.content, subst (λ (y : Choice). WasSent w (Decide x y d.proposal.content)) z (settled_sent x d f))
      ]
      stand_cut x (In_abandoned l) = inr l
      stand_cut x (In_dropped a v i d u z) = s.cut v a.base d x u

      -- each execution at or below the version is committed, or Abandon of it is locked
      pub cut_now : (x : Exec) → UpTo x.ver t.w → CommitSent w x ⊎ AbandonLock p.replicas w x
      cut_now x u =
          elim (each_or (Shut w x) (CommitSent w x ⊎ AbandonLock p.replicas w x) answerers.members (λ r i. member (answerers.each r i))) [
            | inl g ↦ inr (All_shut (record { members = answerers.members; distinct = answerers.distinct; ranged = answerers.ranged; each = g; many = answerers.many }))
            | inr l ↦ l
          ]
        where
          member : {r : ℕ} → Answered r → Shut w x r ⊎ (CommitSent w x ⊎ AbandonLock p.replicas w x)
          member a = elim (is_commit (vote (w.replica a.0.replica) x)) [
            | inl v ↦ inr (stand_cut x (stand x u a.0 a.1 v))
            | inr n ↦ inl (subst (λ z. Shut w x z) a.2 (Fenced_out n (up_to_trans x.ver t.w (fence (w.replica a.0.replica)) u (fact a.0 a.1).1.fenced)))
          ]

      abbrev gathered : List BaseEntry
      gathered =
          flat_map (λ (a : FencedAnswer). a.base) t.answers
          ++ (flat_map (λ (a : FencedAnswer). kept_entries t.w a.committed) t.answers
          ++ flat_map (λ (a : FencedAnswer). decided_entries t.w (w.warden k) a.voted) t.answers)

      -- the base has each committed write at or below the version, or a greater one
      pub base_holds : (y : Exec) (l : Content) → CommitSent w y → WasSent w (Prepare y l) → UpTo y.ver t.w → (e : BaseEntry) →
          IsIn e (entries_of y 1 l.writes) → HasEntry (base_of t.w (w.warden k) t.answers) e
      unfolding base_of
      base_holds y l c pr u e i =
          let m = quorums_meet p.replicas _ _ answerers (s.committed y c.0 c.1).1 in
          go (stand y u m.1.0 m.1.1 (subst (λ z. VotedCommit w y z) (sym m.1.2) m.2))
        where
          hold : IsIn e gathered → HasEntry (put_entries [] gathered) e
          hold j = puts_hold [] gathered e j

          low : (x : Exec) → x ≡ y → before t.w x.ver ≡ false
          low x z = subst (λ (v : Exec). before t.w v.ver ≡ false) (sym z) u

          go : Stand y → HasEntry (put_entries [] gathered) e
          go (In_committed a d j h z) =
              let g = ((fact a j).1.committed d h).0 in
              let same : d.content ≡ l =
              same_prepared p w q y d.content l (subst (λ (v : Exec). WasSent w (Prepare v d.content)) z (commit_prepared a.replica d g)) pr in
              hold (IsIn-right e (flat_map (λ (b : FencedAnswer). b.base) t.answers) _ (IsIn-left e (flat_map (λ (b : FencedAnswer). kept_entries t.w b.committed) t.answers) _
              (flat_map_in (λ (b : FencedAnswer). kept_entries t.w b.committed) t.answers a e j
              (flat_map_in (λ (b : Kept). cond (before t.w b.exec.ver) [] (entries_of b.exec 1 b.content.writes)) a.committed d e h
              (subst (λ (v : Bool). IsIn e (cond v [] (entries_of d.exec 1 d.content.writes))) (sym (low d.exec z))
              (subst (λ (v : Exec). IsIn e (entries_of v 1 d.content.writes)) (sym z) (subst (λ (v : Content). IsIn e (entries_of y 1 v.writes)) (sym same) i)))))))
          go (In_settled a b d j h z f) = in_base d.proposal.content refl
            where
              commit : d.proposal.choice ≡ ToCommit
              commit = elim (choice_cases d.proposal.choice) [
                | inr v ↦ v
                | inl v ↦ absurd (apart_locks y (s.abandoned y d.proposal.content (subst (λ (g : Choice). WasSent w (Decide y g d.proposal.content)) v (settled_sent y d f))) c)
              ]

              sent : WasSent w (Decide y ToCommit d.proposal.content)
              sent = subst (λ (g : Choice). WasSent w (Decide y g d.proposal.content)) commit (settled_sent y d f)

              in_base : (o : Option Content) → d.proposal.content ≡ o → HasEntry (put_entries [] gathered) e
              in_base None g = absurd (subst (λ (v : Option Content). Shaped ToCommit v) g (shaped_reach p pos w q y ToCommit d.proposal.content sent))
              in_base (Some n) g =
                  let same : n ≡ l = same_prepared p w q y n l ((contents_reach p pos w q).from (Decide y ToCommit d.proposal.content) y n (refl, g) sent) pr in
                  let mine : IsIn e (decided_entries_of y (Some d)) = subst (λ (v : Option Content). IsIn e (elim v [ None ↦ [] | Some k ↦ entries_of y 1 k.writes ])) (sym g) (subst (λ (v : Content). IsIn e (entries_of y 1 v.writes)) (sym same) i) in
                  hold (IsIn-right e (flat_map (λ (b : FencedAnswer). b.base) t.answers) _ (IsIn-right e (flat_map (λ (b : FencedAnswer). kept_entries t.w b.committed) t.answers) _
                  (flat_map_in (λ (b : FencedAnswer). decided_entries t.w (w.warden k) b.voted) t.answers a e j
                  (flat_map_in (λ (b : Kept). cond (before t.w b.exec.ver) [] (decided_entries_of b.exec (decision_on (w.warden k) b.exec))) a.voted b e h
                  (subst (λ (v : Bool). IsIn e (cond v [] (decided_entries_of b.exec (decision_on (w.warden k) b.exec)))) (sym (low b.exec z))
                  (subst (λ (v : Exec). IsIn e (decided_entries_of v (decision_on (w.warden k) v))) (sym z) (subst (λ (v : Option DecidedProposal). IsIn e (decided_entries_of y v)) (sym f) mine)))))))
          go (In_abandoned l') = absurd (apart_locks y l' c)
          go (In_dropped a v j d u' z) =
              let h = s.bases.holds v a.base d y l c.0 c.1 pr u' e i in
              entry_trans (put_entries [] gathered) h.0 e h.2 h.3 (puts_hold [] gathered h.0 (IsIn-left h.0 (flat_map (λ (b : FencedAnswer). b.base) t.answers) _ (flat_map_in (λ (b : FencedAnswer). b.base) t.answers a h.0 j h.1)))

      -- and each of its entries is a committed write at or below the version
      pub base_written : (d : BaseEntry) → IsIn d (base_of t.w (w.warden k) t.answers) → Written w t.w d
      unfolding base_of
      base_written d i = elim (puts_of [] gathered d i) [
        | inl j ↦ absurd j
        | inr j ↦ elim (IsIn-cases d (flat_map (λ (b : FencedAnswer). b.base) t.answers) _ j) [
          | inl h ↦ let a = IsIn-flat_map (λ (b : FencedAnswer). b.base) d t.answers h in old a.0 a.1 a.2
          | inr h ↦ elim (IsIn-cases d (flat_map (λ (b : FencedAnswer). kept_entries t.w b.committed) t.answers) _ h) [
            | inl g ↦ let a = IsIn-flat_map (λ (b : FencedAnswer). kept_entries t.w b.committed) d t.answers g in kept a.0 a.1 a.2
            | inr g ↦ let a = IsIn-flat_map (λ (b : FencedAnswer). decided_entries t.w (w.warden k) b.voted) d t.answers g in told a.0 a.1 a.2
          ]
        ]
      ]
        where
          old : (a : FencedAnswer) → IsIn a t.answers → IsIn d a.base → Written w t.w d
          old a j h = elim ((fact a j).1.base) [
            | inl z ↦ absurd (subst (λ (bs : List BaseEntry). IsIn d bs) z h)
            | inr z ↦ let x = s.bases.written z.0 a.base (took_sent a.replica z.1 _ z.2 z.3) d h in
                record { exec = x.exec; content = x.content; decision = x.decision; prepare = x.prepare; upto = up_to_trans x.exec.ver z.0 t.w x.upto z.4; entry = x.entry }
          ]

          kept : (a : FencedAnswer) → IsIn a t.answers → IsIn d (kept_entries t.w a.committed) → Written w t.w d
          kept a j h = let c = IsIn-flat_map (λ (b : Kept). cond (before t.w b.exec.ver) [] (entries_of b.exec 1 b.content.writes)) d a.committed h in go c.0 c.1 (before t.w c.0.exec.ver) refl c.2
            where
              go : (c : Kept) → IsIn c a.committed → (z : Bool) → before t.w c.exec.ver ≡ z → IsIn d (cond z [] (entries_of c.exec 1 c.content.writes)) →
                  Written w t.w d
              go c m true e n = absurd n
              go c m false e n = let g = ((fact a j).1.committed c m).0 in
                  record { exec = c.exec; content = c.content; decision = (Some c.content, commit_sent p w q a.replica c g); prepare = commit_prepared a.replica c g; upto = e; entry = n }

          told : (a : FencedAnswer) → IsIn a t.answers → IsIn d (decided_entries t.w (w.warden k) a.voted) → Written w t.w d
          told a j h = let c = IsIn-flat_map (λ (b : Kept). cond (before t.w b.exec.ver) [] (decided_entries_of b.exec (decision_on (w.warden k) b.exec))) d a.voted h in go c.0 (before t.w c.0.exec.ver) refl c.2
            where
              inside : (x : Exec) → UpTo x.ver t.w → (o : Option DecidedProposal) → decision_on (w.warden k) x ≡ o → IsIn d (decided_entries_of x o) →
                  Written w t.w d
              inside x u None e n = absurd n
              inside x u (Some b) e n = content b.proposal.content refl n
                where
                  content : (o : Option Content) → b.proposal.content ≡ o → IsIn d (elim o [ None ↦ [] | Some k ↦ entries_of x 1 k.writes ]) → Written w t.w d
                  content None f n = absurd n
                  content (Some l) f n = elim (choice_cases b.proposal.choice) [
                    | inl z ↦ absurd (subst (λ (v : Option Content). Shaped Abandon v) f (shaped_reach p pos w q x Abandon b.proposal.content (subst (λ (g : Choice). WasSent w (Decide x g b.proposal.content)) z (settled_sent x b e))))
                    | inr z ↦ let sent : WasSent w (Decide x ToCommit b.proposal.content) = subst (λ (g : Choice). WasSent w (Decide x g b.proposal.content)) z (settled_sent x b e) in
                        record { exec = x; content = l; decision = (b.proposal.content, sent); prepare = (contents_reach p pos w q).from (Decide x ToCommit b.proposal.content) x l (refl, f) sent; upto = u; entry = n }
                  ]

              go : (c : Kept) → (z : Bool) → before t.w c.exec.ver ≡ z → IsIn d (cond z [] (decided_entries_of c.exec (decision_on (w.warden k) c.exec))) →
                  Written w t.w d
              go c true e n = absurd n
              go c false e n = inside c.exec e (decision_on (w.warden k) c.exec) refl n

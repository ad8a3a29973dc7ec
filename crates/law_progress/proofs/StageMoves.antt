-- The steps of the client of such a transaction while it is under way.
use Rattle.std.proofs.Common.{◌≡◌, ℕ, ℤ, ◌<◌, ◌≤◌, ◌⊎◌, inl, inr, refl, ap, sym, ◌∙◌, subst, true, false, Bool, List, [], ◌∷◌, ◌++◌, Option, Some, None, arith}
use Rattle.std.specs.Prelude.{◌-◌, not, ◌&&◌, ◌||◌, flat_map, nat_lt}
use Rattle.std.specs.List.{slice_get}
use Rattle.protocol.specs.Words.{Ending, Exec, Key, Version, Wid, Client, Replica, Envelope, Body, Get, Note, Prepare, Puts, Decide, TooOld, Voted, ToCommit, Content, Vote, Commit}
use Rattle.protocol.specs.declared.Fate.TheVariants.{Committed}
use Rattle.protocol.specs.Lists.{IsIn, one_when}
use Rattle.protocol.specs.Replica.Taken.{Handled}
use Rattle.protocol.specs.Replica.Held.{first_value}
use Rattle.protocol.specs.Replica.Votes.{vote}
use Rattle.protocol.specs.Client.State.{Answer, Attempt, ClientState, CountedVote, Phase, Turn, Txn, Walk, content, idle, may_put, values, walk, walk_at}
use Rattle.protocol.specs.Client.State.Phase.{Between, Running, Prepared}
use Rattle.protocol.specs.Client.Attempts.{ran, question, wrote, has_pending}
use Rattle.protocol.specs.Client.Deciding.{decide, conclude}
use Rattle.protocol.specs.Client.Following.{answered}
use Rattle.protocol.specs.Client.Counting.{prepared}
use Rattle.protocol.specs.Client.Step.{comes, comes_running, comes_prepared, is_warden}
use Rattle.protocol.specs.World.State.{Plan, World, rules}
use Rattle.protocol.specs.World.Events.{to_all}
use Rattle.protocol.proofs.ListsLemmas.{IsIn-left, IsIn-right, IsIn-cases}
use Rattle.protocol.proofs.EventSteps.{IsIn-get}
use Rattle.law_steps.proofs.ClientActs.{IsRunning}
use Rattle.law_steps.proofs.Reach.{Reach}
use Rattle.law_steps.proofs.ClientFacts.{At, HasPrepared, not_at, running_prepared}
use Rattle.law_safety.proofs.LocksLemmas.{voted_prepared}
use Rattle.law_steps.proofs.Senders.{prepare_from}
use Rattle.law_steps.proofs.PhaseLemmas.{running_between}
use Rattle.law_safety.proofs.TruncationSettles.{CommitSent}
use Rattle.law_progress.proofs.CalmWardens.{IsCalm}
use Rattle.law_progress.proofs.UndisturbedSteps.{Takes, Acts}
use Rattle.law_progress.proofs.ApartMessages.{IsOurs, no_warden, note_first, not_old, vote_commits}
use Rattle.law_progress.proofs.Stage.{Question, Ballot, IsClean, Stands, InFirst, to_each}
use Rattle.law_progress.proofs.Stage.Question.{Asking, Telling}
use Rattle.law_progress.proofs.Stage.Ballot.{Counted, Voting, Asked}
use Rattle.law_progress.proofs.CommitTallies.{AllCommit, none_counted}
use Rattle.law_progress.proofs.ClientHears.{clean, map_more, ready, ready_not, Hears, Counts, running_hears, prepared_hears}
use Rattle.law_progress.proofs.ClientHears.Hears.{Ignored, Answered}
use Rattle.law_progress.proofs.ClientHears.Counts.{Ignores, Adds, Commits}
use Rattle.law_progress.proofs.WaitingLemmas.{IsWaiting, takes_waits, acts_sends}

-- a program that has not ended asks for a read
abbrev pub AsksOrEnds : Plan → Type 0
AsksOrEnds p = (c n : ℕ) (t : Txn) → slice_get (rules p c).txns n ≡ Some t → (vs : List ℤ) → (t.walk vs).ending ≡ None → (k : Key) × ((t.walk vs).asks ≡ Some k)

-- the client after a step in which the transaction stays under way, or commits
pub data Moved (p : Plan) (c n : ℕ) (w' : World) (s : ClientState) (t : Turn) : Type 0 where
  Still : t.state.begun ≡ s.begun → t.state.exec ≡ s.exec → t.state.attempts ≡ s.attempts → Stands p w' c t.state t.state.phase → Moved p c n w' s t
  Finished : t.state.begun ≡ s.begun → t.state.attempts ≡ s.attempts → CommitSent w' s.exec → t.state.phase ≡ Between → t.state.fate ≡ Committed →
      Moved p c n w' s t

module _ (p : Plan) (pos : 0 < p.replicas) (w : World) (q : Reach p w) (calm : IsCalm w) (c n : ℕ) (s : ClientState) (is : w.client c
    ≡ s) (u : InFirst p c n s) (o : IsOurs w c n (record { ver = s.exec.ver; txn = n; try = 1 })) (w' : World) (rep : w'.replica ≡ w.replica) where
  abbrev Try : Attempt
  Try = record { ver = s.exec.ver; txn = n; try = 1 }

  same_turn : (a b : Turn) → a ≡ b → Moved p c n w' s b → Moved p c n w' s a
  same_turn a b e z = subst (λ (y : Turn). Moved p c n w' s y) (sym e) z

  no_vote_yet : (r : ℕ) (x : Exec) → vote (w.replica r) x ≡ None → vote (w'.replica r) x ≡ None
  no_vote_yet r x v = subst (λ (f : ℕ → Handled). vote (f r) x ≡ None) (sym rep) v

  -- a client that decides Commit is done, and all are told
  committed : (k : Content) (more : List CountedVote) (t : Turn) → w'.mail ≡ w.mail ++ flat_map (to_all p.replicas (Client c)) t.sent →
      t ≡ decide (rules p c) (prepared s k more None []) k ToCommit → Moved p c n w' s (decide (rules p c) (prepared s k more None []) k ToCommit)
  unfolding decide conclude
  committed k more t mail e = Finished refl refl (Some k, record { envelope = record { from = Client c; to = Replica 1; body = Decide s.exec ToCommit (Some k) }; there = there; body = refl }) refl refl
    where
      there : IsIn (record { from = Client c; to = Replica 1; body = Decide s.exec ToCommit (Some k) }) w'.mail
      there = subst (λ (l : List Envelope). IsIn (record { from = Client c; to = Replica 1; body = Decide s.exec ToCommit (Some k) }) l) (sym mail)
          (IsIn-right _ w.mail _ (to_each p.replicas c t.sent (Decide s.exec ToCommit (Some k)) 1 (omega arith) (omega (arith, pos)) (subst (λ (y : Turn). IsIn (Decide s.exec ToCommit (Some k)) y.sent) (sym e) (inl refl))))

  -- an envelope comes
  module _ (i : ℕ) (m : Envelope) (to : m.to
      ≡ Client c) (t : Takes w w' i m (flat_map (to_all p.replicas (Client c)) (comes (rules p c) s s.phase m.from m.body).sent)) where
    here : IsIn m w.mail
    here = IsIn-get w.mail i m t.place

    ward : is_warden m.from ≡ true → ⊥
    ward = no_warden p pos w q calm m here

    note : (v : Version) (k : Key) (wid : Wid) (value : ℤ) (sure : Bool) (lost : Option Wid) → m.body ≡ Note v k wid value sure lost → v ≡ s.exec.ver →
        ((u : ℤ) × (record { wid = wid; value = value; sure = sure } ≡ first_value u)) × (lost ≡ None)
    note v k wid value sure lost b = note_first p pos w q calm c n Try o v k wid value sure lost (record { envelope = m; there = here; body = b })

    old : (v y : Version) → m.body ≡ TooOld v y → v ≡ s.exec.ver → ⊥
    old v y b = not_old p pos w q calm c n Try o v y (record { envelope = m; there = here; body = b })

    commit : (x : Exec) (v : Vote) → m.body ≡ Voted x v → x.ver ≡ s.exec.ver → v ≡ Commit
    commit x v b = vote_commits p pos w q calm c n Try o x v (record { envelope = m; there = here; body = b })

    waits : (e : Envelope) → IsWaiting w e → IsWaiting w' e ⊎ (e ≡ m)
    waits e z = takes_waits w w' (flat_map (to_all p.replicas (Client c)) (comes (rules p c) s s.phase m.from m.body).sent) e i m t z

    kept : (e : Envelope) (r : ℕ) → e.to ≡ Replica r → IsWaiting w e → IsWaiting w' e
    kept e r f z = elim (waits e z) [
      | inl y ↦ y
      | inr y ↦ (let g : Replica r ≡ Client c = sym f ∙ ap (λ (x : Envelope). x.to) y ∙ to in cc)
    ]

    pending_comes : (given : Bool) → s.phase ≡ Running true given → Stands p w c s (Running true given) →
        Moved p c n w' s (comes_running (rules p c) s true m.from m.body)
    pending_comes given e z = go (running_hears (rules p c) s z.0 z.1 (not_pending s.phase e) true m.from m.body ward note old)
      where
        not_pending : (h : Phase) → h ≡ Running true given → has_pending h ≡ false → (walk (rules p c) s).ending ≡ None
        not_pending h e f = let g : true ≡ false = subst (λ (h : Phase). has_pending h ≡ false) e f in cc

        go : Hears (rules p c) s z.0 z.1 (not_pending s.phase e) true m.body (comes_running (rules p c) s true m.from m.body) →
            Moved p c n w' s (comes_running (rules p c) s true m.from m.body)
        go (Ignored f e') = same_turn _ (idle s) e' (Still refl refl refl (subst (λ (h : Phase). Stands p w' c s h) (sym e) z))
        go (Answered f k v a e') = cc

    asking_comes : (given : Bool) → s.phase ≡ Running false given → Stands p w c s (Running false given) →
        Moved p c n w' s (comes_running (rules p c) s false m.from m.body)
    asking_comes given e z = go (running_hears (rules p c) s z.0.0 z.0.1 (λ f. z.1) false m.from m.body ward note old)
      where
        go : Hears (rules p c) s z.0.0 z.0.1 (λ f. z.1) false m.body (comes_running (rules p c) s false m.from m.body) →
            Moved p c n w' s (comes_running (rules p c) s false m.from m.body)
        go (Ignored f e') = same_turn _ (idle s) e' (Still refl refl refl (subst (λ (h : Phase). Stands p w' c s h) (sym e) (z.0, z.1, (z.2.0, z.2.1, asks z.2.2))))
          where
            asks : Question w c s.exec z.2.0 → Question w' c s.exec z.2.0
            asks (Asking y) = Asking (kept _ 1 refl y)
            asks (Telling r wid value sure lost y) = elim (waits _ y) [
              | inl x ↦ Telling r wid value sure lost x
              | inr x ↦ absurd (f (z.2.0, wid, value, sure, lost, sym (ap (λ (g : Envelope). g.body) x), refl, z.2.1))
            ]
        go (Answered f k v a e') = same_turn _ (idle (answered s (first_value v))) e'
            (Still refl refl refl (z.0.0 ++ v ∷ [], ap (λ (l : List Answer). l ++ clean v ∷ []) z.0.1 ∙ map_more z.0.0 v))

    prepared_comes : (k : Content) (votes : List CountedVote) (accepts : List ℕ) → s.phase ≡ Prepared k votes None accepts →
        Stands p w c s (Prepared k votes None accepts) → Moved p c n w' s (comes_prepared (rules p c) s k votes None accepts m.from m.body)
    unfolding comes
    prepared_comes k votes accepts e z = go (prepared_hears (rules p c) s k votes accepts e z.1 m.from m.body ward commit)
      where
        go : Counts (rules p c) s k votes m.from m.body (comes_prepared (rules p c) s k votes None accepts m.from m.body) →
            Moved p c n w' s (comes_prepared (rules p c) s k votes None accepts m.from m.body)
        go (Ignores l e' f) = same_turn _ (idle (record s { answers = l })) e' (Still refl refl refl (subst (λ (h : Phase). Stands p w' c (record s { answers = l }) h) (sym e) (refl, z.1, z.2, λ r a b. ballot r a b (z.3 r a b))))
          where
            ballot : (r : ℕ) → 0 < r → r ≤ p.replicas → Ballot w c s.exec k votes r → Ballot w' c s.exec k votes r
            ballot r a b (Counted y) = Counted y
            ballot r a b (Voting y) = elim (waits _ y) [
              | inl x ↦ Voting x
              | inr x ↦ Counted (f r (sym (ap (λ (g : Envelope). g.from) x)) a b (sym (ap (λ (g : Envelope). g.body) x)))
            ]
            ballot r a b (Asked v y) = Asked (no_vote_yet r s.exec v) (kept _ r refl y)
        go (Adds j f l e') = same_turn _ (idle (prepared s k more None [])) e' (Still refl refl refl (refl, all, l, λ r a b. ballot r (z.3 r a b)))
          where
            more : List CountedVote
            more = votes ++ record { replica = j; vote = Commit } ∷ []

            all : AllCommit more
            all b y = elim (IsIn-cases b votes (record { replica = j; vote = Commit } ∷ []) y) [
              | inl x ↦ z.1 b x
              | inr x ↦ elim x [ inl g ↦ ap (λ (d : CountedVote). d.vote) g | inr g ↦ absurd g ]
            ]

            ballot : (r : ℕ) → Ballot w c s.exec k votes r → Ballot w' c s.exec k more r
            ballot r (Counted y) = Counted (y.0, IsIn-left y.0 votes (record { replica = j; vote = Commit } ∷ []) y.1, y.2)
            ballot r (Voting y) = elim (waits _ y) [
              | inl x ↦ Voting x
              | inr x ↦ (let g : Replica r ≡ Replica j = ap (λ (d : Envelope). d.from) x ∙ f in let h : j ≡ r = cc in
                  Counted (record { replica = j; vote = Commit }, IsIn-right _ votes (record { replica = j; vote = Commit } ∷ []) (inl refl), h))
            ]
            ballot r (Asked v y) = Asked (no_vote_yet r s.exec v) (kept _ r refl y)
        go (Commits more e') = same_turn _ (decide (rules p c) (prepared s k more None []) k ToCommit) e'
            (committed k more _ t.mail (ap (λ (h : Phase). comes (rules p c) s h m.from m.body) e ∙ e'))

    pub comes_moves : (h : Phase) → s.phase ≡ h → Stands p w c s h → Moved p c n w' s (comes (rules p c) s h m.from m.body)
    unfolding comes
    comes_moves Between e z = absurd z
    comes_moves (Running true g) e z = pending_comes g e z
    comes_moves (Running false g) e z = asking_comes g e z
    comes_moves (Prepared k votes None accepts) e z = prepared_comes k votes accepts e z
    comes_moves (Prepared k votes (Some d) accepts) e z = let f = z.0 in cc

  -- its segment is given back
  module _ (given : Bool) (e : s.phase
      ≡ Running true given) (z : IsClean s) (asks : AsksOrEnds p) (t : Acts w w' (flat_map (to_all p.replicas (Client c)) (ran (rules p c) s given).sent)) where
    no_vote : (r : ℕ) → vote (w.replica r) s.exec ≡ None
    no_vote r = go (vote (w.replica r) s.exec) refl
      where
        run : IsRunning s.phase
        run = subst IsRunning (sym e) tt

        at_client : w.client s.exec.ver.client ≡ s
        at_client = ap w.client u.client ∙ is

        go : (y : Option Vote) → vote (w.replica r) s.exec ≡ y → y ≡ None
        go None f = refl
        go (Some v) f =
            let k = voted_prepared p w q s.exec v r f in
            let h = (prepare_from p w q k.1.envelope s.exec k.0 k.1.there k.1.body).1 in
            absurd (not_at (HasPrepared k.0) s.exec s refl (running_between s.phase run) (running_prepared k.0 s.phase run) (subst (λ (y : ClientState). At (HasPrepared k.0) s.exec y) at_client h))

    abbrev Run : ClientState
    Run = record s { phase = Running false true }

    abbrev Out : List Body
    Out = one_when (may_put (walk (rules p c) s).ending && (wrote (rules p c) s || (not given && nat_lt 0 s.exec.eid))) (Puts s.exec (walk (rules p c) s).writes) ++ question s.exec (walk (rules p c) s).asks

    sends : (b : Body) (bs : List Body) (r : ℕ) → 0 < r → r ≤ p.replicas → Acts w w' (flat_map (to_all p.replicas (Client c)) bs) → IsIn b bs →
        IsWaiting w' (record { from = Client c; to = Replica r; body = b })
    sends b bs r l v a j = acts_sends w w' (flat_map (to_all p.replicas (Client c)) bs) _ calm.marks a (to_each p.replicas c bs b r l v j)

    pub ran_moves : Moved p c n w' s (ran (rules p c) s given)
    unfolding ran
    ran_moves = go (walk (rules p c) s).ending refl
      where
        go : (y : Option Ending) → (walk (rules p c) s).ending ≡ y → Moved p c n w' s (ran (rules p c) s given)
        go None f = same_turn _ (record { state = Run; sent = Out }) whole (Still refl refl refl (z, f, (k.0, k.1, Asking (sends (Get s.exec k.0) Out 1 (omega arith) (omega (arith, pos)) acts asked))))
          where
            whole : ran (rules p c) s given ≡ record { state = Run; sent = Out }
            whole = ready_not (rules p c) Run z.0 z.1 Out f

            acts : Acts w w' (flat_map (to_all p.replicas (Client c)) Out)
            acts = subst (λ (y : Turn). Acts w w' (flat_map (to_all p.replicas (Client c)) y.sent)) whole t

            program : walk (rules p c) s ≡ u.program.0.walk (values s.answers)
            program = ap (λ (m : ℕ). walk_at (slice_get (rules p c).txns (m - 1)) (values s.answers)) u.begun
                ∙ ap (λ (y : Option Txn). walk_at y (values s.answers)) u.program.1

            k : (k : Key) × ((walk (rules p c) s).asks ≡ Some k)
            k = let y = asks c (n - 1) u.program.0 u.program.1 (values s.answers) (ap (λ (x : Walk). x.ending) (sym program) ∙ f) in
                (y.0, ap (λ (x : Walk). x.asks) program ∙ y.1)

            asked : IsIn (Get s.exec k.0) Out
            asked = IsIn-right (Get s.exec k.0) (one_when (may_put (walk (rules p c) s).ending && (wrote (rules p c) s || (not given && nat_lt 0 s.exec.eid))) (Puts s.exec (walk (rules p c) s).writes)) (question s.exec (walk (rules p c) s).asks)
                (subst (λ (y : Option Key). IsIn (Get s.exec k.0) (question s.exec y)) (sym k.1) (inl refl))
        go (Some d) f = same_turn _ Ready whole (Still refl refl refl (refl, (λ b i. absurd i), none_counted p.replicas pos, λ r a b. Asked (no_vote_yet r s.exec (no_vote r)) (sends (Prepare s.exec (content (rules p c) Run d)) Ready.sent r a b acts last)))
          where
            Ready : Turn
            Ready = record { state = record Run { phase = Prepared (content (rules p c) Run d) [] None [] }; sent = Out ++ Prepare s.exec (content (rules p c) Run d) ∷ [] }

            whole : ran (rules p c) s given ≡ Ready
            whole = ready (rules p c) Run z.0 z.1 Out d f

            acts : Acts w w' (flat_map (to_all p.replicas (Client c)) Ready.sent)
            acts = subst (λ (y : Turn). Acts w w' (flat_map (to_all p.replicas (Client c)) y.sent)) whole t

            last : IsIn (Prepare s.exec (content (rules p c) Run d)) (Out ++ Prepare s.exec (content (rules p c) Run d) ∷ [])
            last = IsIn-right _ Out (Prepare s.exec (content (rules p c) Run d) ∷ []) (inl refl)

-- How far a transaction is that shares no key with another, and what of it is still under way.
use Rattle.std.proofs.Common.{◌≡◌, ℕ, ℤ, ◌<◌, ◌≤◌, ◌⊎◌, inl, inr, refl, ap, sym, ◌∙◌, subst, true, false, Bool, List, ◌∷◌, Option, Some, None}
use Rattle.std.specs.Prelude.{cond, map, ◌-◌, flat_map, nat_le}
use Rattle.std.specs.List.{slice_get}
use Rattle.std.proofs.lemmas.Bool.Decides.{eqb_tells}
use Rattle.protocol.specs.Words.{Exec, Key, Wid, NodeId, Client, Replica, Warden, Envelope, Body, Get, Note, Prepare, Decide, Voted, Choice, Content, Vote, Commit, no_version, before}
use Rattle.protocol.specs.declared.Fate.TheVariants.{Committed}
use Rattle.protocol.specs.Lists.{IsIn, upto}
use Rattle.protocol.specs.Replica.Taken.{Handled, takes, after_taking}
use Rattle.protocol.specs.Replica.Acceptor.{decided}
use Rattle.protocol.specs.Replica.Votes.{casts, verdict, vote, is_commit_vote}
use Rattle.protocol.specs.Replica.Says.{says, note_of}
use Rattle.protocol.specs.Replica.Readers.{envelope_from}
use Rattle.protocol.specs.Replica.Held.{latest}
use Rattle.protocol.specs.Client.State.{Attempt, ClientState, CountedVote, Phase, Txn, walk}
use Rattle.protocol.specs.Client.State.Phase.{Between, Running, Prepared}
use Rattle.protocol.specs.Client.Counting.{count_votes}
use Rattle.protocol.specs.World.State.{Plan, World, rules}
use Rattle.protocol.specs.World.Events.{at, to_all}
use Rattle.protocol.specs.World.Decided.{WasSent}
use Rattle.protocol.proofs.ListsLemmas.{map_in, flat_map_in, at_same, at_other, upto_in}
use Rattle.protocol.proofs.EventSteps.{IsIn-get}
use Rattle.law_steps.specs.Executions.{Over}
use Rattle.law_steps.proofs.ClientActs.{IsUnderWay}
use Rattle.law_steps.proofs.ReplicaFacts.{RFact, facts_reach}
use Rattle.law_steps.proofs.MailLemmas.{took_reach}
use Rattle.law_steps.proofs.Reach.{Reach}
use Rattle.law_steps.proofs.ClientFacts.{CFact, client_facts_reach, rec_reach}
use Rattle.law_steps.proofs.VotesLemmas.{new_vote}
use Rattle.law_steps.proofs.Senders.{prepare_from}
use Rattle.law_steps.proofs.ExecutionsLemmas.{earlier_itself}
use Rattle.law_safety.proofs.TruncationSettles.{CommitSent}
use Rattle.law_safety.proofs.WardenEvidence.{decided_sent}
use Rattle.law_progress.proofs.RepliesLemmas.{says_note, says_vote}
use Rattle.law_progress.proofs.CalmWardens.{IsCalm}
use Rattle.law_progress.proofs.UndisturbedSteps.{Takes}
use Rattle.law_progress.proofs.ApartMessages.{IsOurs}
use Rattle.law_progress.proofs.ApartReplicas.{verdict_is_commit, tame_mail, tame_dropped, tame_promised, AllTame}
use Rattle.law_progress.proofs.CommitTallies.{AllCommit, IsCounted}
use Rattle.law_progress.proofs.ClientHears.{clean}
use Rattle.law_progress.proofs.WaitingLemmas.{IsWaiting, takes_waits, takes_sends}

-- the question of the client goes to a replica, or its answer to the client
pub data Question (w : World) (c : ℕ) (x : Exec) (k : Key) : Type 0 where
  Asking : IsWaiting w (record { from = Client c; to = Replica 1; body = Get x k }) → Question w c x k
  Telling : (r : ℕ) (wid : Wid) (value : ℤ) (s : Bool) (lost : Option Wid) →
      IsWaiting w (record { from = Replica r; to = Client c; body = Note x.ver k wid value s lost }) → Question w c x k

-- the vote of a replica was counted, goes to the client, or is asked for
pub data Ballot (w : World) (c : ℕ) (x : Exec) (k : Content) (votes : List CountedVote) (r : ℕ) : Type 0 where
  Counted : IsCounted r votes → Ballot w c x k votes r
  Voting : IsWaiting w (record { from = Replica r; to = Client c; body = Voted x Commit }) → Ballot w c x k votes r
  Asked : vote (w.replica r) x ≡ None → IsWaiting w (record { from = Client c; to = Replica r; body = Prepare x k }) → Ballot w c x k votes r

-- each answer is a first value
abbrev pub IsClean : ClientState → Type 0
IsClean s = (vs : List ℤ) × (s.answers ≡ map clean vs)

-- what of it is under way, by phase
abbrev pub Stands : Plan → World → ℕ → ClientState → Phase → Type 0
Stands p w c s Between = ⊥
Stands p w c s (Running true g) = IsClean s
Stands p w c s (Running false g) = IsClean s × ((walk (rules p c) s).ending ≡ None) × ((k : Key) × ((walk (rules p c) s).asks ≡ Some k) × Question w c s.exec k)
Stands p w c s (Prepared k votes o accepts) = (o ≡ None) × AllCommit votes × (nat_le p.replicas (count_votes is_commit_vote votes) ≡ false) × ((r : ℕ) → 0 < r →
    r ≤ p.replicas → Ballot w c s.exec k votes r)

-- the first try of transaction n, at its execution 0
pub record InFirst (p : Plan) (c n : ℕ) (s : ClientState) : Type 0 where
  pub begun : s.begun ≡ n
  pub there : IsIn (record { ver = s.exec.ver; txn = n; try = 1 }) s.attempts
  pub first : s.exec.eid ≡ 0
  pub client : s.exec.ver.client ≡ c
  pub above : before no_version s.exec.ver ≡ true
  pub only : (b : Attempt) → IsIn b s.attempts → b.txn ≡ n → b.ver ≡ s.exec.ver
  pub program : (t : Txn) × (slice_get (rules p c).txns (n - 1) ≡ Some t)

-- the transaction is to come, in its first execution, or committed in it
pub data Stage (p : Plan) (c n : ℕ) (w : World) : Type 0 where
  Before : (w.client c).begun < n → Stage p c n w
  Under : InFirst p c n (w.client c) → Stands p w c (w.client c) (w.client c).phase → Stage p c n w
  Done : (a : Attempt) → IsIn a (w.client c).attempts → a.txn ≡ n → a.try ≡ 1 → CommitSent w (record { ver = a.ver; eid = 0 }) → n ≤ (w.client c).begun
      → ((w.client c).begun ≡ n → ((w.client c).phase ≡ Between) × ((w.client c).fate ≡ Committed)) → Stage p c n w

-- to the client or to a replica
abbrev pub Concerns : ℕ → Envelope → Type 0
Concerns c m = (m.to ≡ Client c) ⊎ ((r : ℕ) × (m.to ≡ Replica r))

-- what another node does leaves it as it is
pub stands_on : (p : Plan) (w w' : World) (c : ℕ) (s : ClientState) → w'.replica ≡ w.replica →
    ((m : Envelope) → Concerns c m → IsWaiting w m → IsWaiting w' m) → (h : Phase) → Stands p w c s h → Stands p w' c s h
stands_on p w w' c s rep keep Between z = z
stands_on p w w' c s rep keep (Running true g) z = z
stands_on p w w' c s rep keep (Running false g) z = (z.0, z.1, (z.2.0, z.2.1, go z.2.2))
  where
    go : Question w c s.exec z.2.0 → Question w' c s.exec z.2.0
    go (Asking q) = Asking (keep _ (inr (1, refl)) q)
    go (Telling r wid value u lost q) = Telling r wid value u lost (keep _ (inl refl) q)
stands_on p w w' c s rep keep (Prepared k votes o accepts) z = (z.0, z.1, z.2, λ r a b. go r (z.3 r a b))
  where
    go : (r : ℕ) → Ballot w c s.exec k votes r → Ballot w' c s.exec k votes r
    go r (Counted i) = Counted i
    go r (Voting q) = Voting (keep _ (inl refl) q)
    go r (Asked v q) = Asked (subst (λ (f : ℕ → Handled). vote (f r) s.exec ≡ None) (sym rep) v) (keep _ (inr (r, refl)) q)

-- what a client sends goes to each replica
pub to_each : (n c : ℕ) (bs : List Body) (b : Body) (r : ℕ) → 0 < r → r ≤ n → IsIn b bs →
    IsIn (record { from = Client c; to = Replica r; body = b }) (flat_map (to_all n (Client c)) bs)
to_each n c bs b r l u i = flat_map_in (to_all n (Client c)) bs b (record { from = Client c; to = Replica r; body = b }) i
    (map_in (λ (j : ℕ). record { from = Client c; to = Replica j; body = b }) (upto n) r (upto_in n r l u))

module _ (p : Plan) (pos : 0 < p.replicas) (w : World) (q : Reach p w) (calm : IsCalm w) (c n : ℕ) (s : ClientState) (is : w.client c
    ≡ s) (u : InFirst p c n s) (way : IsUnderWay s.phase) (o : IsOurs w c n (record { ver = s.exec.ver; txn = n; try = 1 })) where
  tame : (r : ℕ) → AllTame (w.replica r)
  tame r m i = tame_mail p pos w q calm m ((took_reach p w q).took r m i).0

  not_over : Over s.exec s → ⊥
  not_over (inl h) = earlier_itself s.exec h
  not_over (inr h) = subst IsUnderWay h.1 way

  -- nobody decided it yet
  undecided : (r : ℕ) → decided (w.replica r) s.exec ≡ None
  undecided r = go (decided (w.replica r) s.exec) refl
    where
      from : (d : Choice) (z : Option Content) (t : WasSent w (Decide s.exec d z)) (g : NodeId) → t.envelope.from ≡ g → ⊥
      from d z t (Client j) e =
          let i : IsIn (record { exec = s.exec; choice = d }) (w.client j).decisions = subst (CFact j (w.client j)) t.body ((client_facts_reach p w q).said t.envelope j t.there e) in
          let k = (rec_reach p w q j).done (record { exec = s.exec; choice = d }) i in
          not_over (subst (λ (y : ClientState). Over s.exec y) (ap w.client (sym k.0 ∙ u.client) ∙ is) k.1)
      from d z t (Replica j) e = subst (RFact j (w.replica j)) t.body ((facts_reach p w q).said t.envelope j t.there e)
      from d z t (Warden j) e = calm.silent t.envelope t.there j e

      go : (y : Option Choice) → decided (w.replica r) s.exec ≡ y → y ≡ None
      go None e = refl
      go (Some d) e = let t = decided_sent p w q s.exec d r e in absurd (from d t.0 t.1 t.1.envelope.from refl)

  module _ (w' : World) (r i : ℕ) (m : Envelope) (to : m.to ≡ Replica r) (t : Takes w w' i m (says p.firsts r (w.replica r) m)) (rep : w'.replica
      ≡ at r (after_taking (w.replica r) m) w.replica) where
    in_mail : IsIn m w.mail
    in_mail = IsIn-get w.mail i m t.place

    -- what goes to the client stays under way
    kept : (e : Envelope) → e.to ≡ Client c → IsWaiting w e → IsWaiting w' e
    kept e f z = elim (takes_waits w w' (says p.firsts r (w.replica r) m) e i m t z) [
      | inl y ↦ y
      | inr y ↦ (let g : Client c ≡ Replica r = sym f ∙ ap (λ (x : Envelope). x.to) y ∙ to in cc)
    ]

    -- a Prepare that comes is answered by Commit
    votes_now : (k : Content) → m.body ≡ Prepare s.exec k → vote (w.replica r) s.exec ≡ None →
        IsWaiting w' (record { from = Replica r; to = Client c; body = Voted s.exec Commit })
    votes_now k e v = subst (λ (g : NodeId). IsWaiting w' (record { from = Replica r; to = g; body = Voted s.exec Commit })) from
        (takes_sends w w' (says p.firsts r (w.replica r) m) _ calm.marks i m t
        (says_vote p.firsts r (w.replica r) (tame_dropped (w.replica r) (tame r)) m s.exec k e u.above (tame_promised (w.replica r) s.exec (tame r)) v (undecided r) commit))
      where
        from : m.from ≡ Client c
        from = (prepare_from p w q m s.exec k in_mail e).0 ∙ ap Client u.client

        commit : verdict (w.replica r) (casts (w.replica r)) s.exec k ≡ Commit
        commit = verdict_is_commit p pos w q calm c n o.apart (record { ver = s.exec.ver; txn = n; try = 1 }) o.begun o.txn o.client o.only (w.replica r) (λ z j. ((took_reach p w q).took r z j).0) s.exec k u.above refl
            (record { envelope = m; there = in_mail; body = e })

    question_on : (k : Key) → Question w c s.exec k → Question w' c s.exec k
    question_on k (Telling j wid value sure lost z) = Telling j wid value sure lost (kept _ refl z)
    question_on k (Asking z) = elim (takes_waits w w' (says p.firsts r (w.replica r) m) _ i m t z) [
      | inl y ↦ Asking y
      | inr y ↦ (let l = latest p.firsts (w.replica r) k s.exec.ver in Telling r l.wid l.value l.sure None
          (takes_sends w w' (says p.firsts r (w.replica r) m) _ calm.marks i m t
          (subst (λ (e : Envelope). IsIn (envelope_from r (Client c) (note_of s.exec.ver k (latest p.firsts (w.replica r) k s.exec.ver))) (says p.firsts r (w.replica r) e)) y
          (says_note p.firsts r (w.replica r) (tame_dropped (w.replica r) (tame r)) (Client c) (Replica 1) s.exec k u.above))))
    ]

    -- a vote that was not cast is asked for still, or is cast
    cast_or_not : (j : ℕ) → vote (w.replica j) s.exec ≡ None → (vote (w'.replica j) s.exec ≡ None) ⊎ ((j ≡ r) × ((k : Content) × (m.body ≡ Prepare s.exec k)))
    unfolding after_taking
    cast_or_not j v = elim (eqb_tells j r) [
      | inl e ↦ here e.1
      | inr e ↦ inl (subst (λ (h : Handled). vote h s.exec
          ≡ None) (sym (ap (λ (f : ℕ → Handled). f j) rep ∙ at_other r (after_taking (w.replica r) m) w.replica j e.1)) v)
    ]
      where
        now : (h : Handled) → vote h s.exec ≡ None → (y : Bool) → (vote (cond y (m ∷ h) h) s.exec ≡ None) ⊎ ((k : Content) × (m.body ≡ Prepare s.exec k))
        now h v false = inl v
        now h v true = go (vote (m ∷ h) s.exec) refl
          where
            go : (z : Option Vote) → vote (m ∷ h) s.exec ≡ z → (vote (m ∷ h) s.exec ≡ None) ⊎ ((k : Content) × (m.body ≡ Prepare s.exec k))
            go None e = inl e
            go (Some d) e = elim (new_vote h m s.exec d e) [ inl f ↦ (let g : None ≡ Some d = sym v ∙ f in cc) | inr f ↦ inr (f.0, f.1) ]

        here : j ≡ r → (vote (w'.replica j) s.exec ≡ None) ⊎ ((j ≡ r) × ((k : Content) × (m.body ≡ Prepare s.exec k)))
        here e = elim (now (w.replica r) (subst (λ (z : ℕ). vote (w.replica z) s.exec ≡ None) e v) (takes (w.replica r) m.body)) [
          | inl z ↦ inl (subst (λ (h : Handled). vote h s.exec
              ≡ None) (sym (ap (λ (f : ℕ → Handled). f j) rep ∙ ap (λ (y : ℕ). at r (after_taking (w.replica r) m) w.replica y) e
              ∙ at_same r (after_taking (w.replica r) m) w.replica)) z)
          | inr z ↦ inr (e, z)
        ]

    ballot_on : (k : Content) (votes : List CountedVote) (j : ℕ) → Ballot w c s.exec k votes j → Ballot w' c s.exec k votes j
    ballot_on k votes j (Counted z) = Counted z
    ballot_on k votes j (Voting z) = Voting (kept _ refl z)
    ballot_on k votes j (Asked v z) = elim (takes_waits w w' (says p.firsts r (w.replica r) m) _ i m t z) [
      | inl y ↦ elim (cast_or_not j v) [ inl x ↦ Asked x y | inr x ↦ cast x.0 x.1.0 x.1.1 ]
      | inr y ↦ (let g : Replica j ≡ Replica r = ap (λ (x : Envelope). x.to) y ∙ to in let f : j ≡ r = cc in cast f k (sym (ap (λ (x : Envelope). x.body) y)))
    ]
      where
        cast : j ≡ r → (l : Content) → m.body ≡ Prepare s.exec l → Ballot w' c s.exec k votes j
        cast e l b = Voting (subst (λ (z : ℕ). IsWaiting w' (record { from = Replica z; to = Client c; body = Voted s.exec Commit })) (sym e) (votes_now l b (subst (λ (z : ℕ). vote (w.replica z) s.exec ≡ None) e v)))

    pub replica_stands : (h : Phase) → Stands p w c s h → Stands p w' c s h
    replica_stands Between z = z
    replica_stands (Running true g) z = z
    replica_stands (Running false g) z = (z.0, z.1, (z.2.0, z.2.1, question_on z.2.0 z.2.2))
    replica_stands (Prepared k votes y accepts) z = (z.0, z.1, z.2, λ j a b. ballot_on k votes j (z.3 j a b))

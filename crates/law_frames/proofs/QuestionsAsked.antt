-- A client asks for its own execution alone, while that runs.
use Rattle.std.proofs.Common.{◌≡◌, ℕ, inl, inr, refl, sym, subst, true, false, Bool, cond, List, [], ◌∷◌, ◌++◌, Option, Some, None}
use Rattle.std.specs.Prelude.{nat_lt, nat_le, suc, length, ◌+◌, ◌&&◌, ◌==◌, not}
use Rattle.std.specs.List.{list_any, list_all}
use Rattle.std.specs.Bool.{then_some}
use Rattle.std.specs.Ordering.{int_eq}
use Rattle.protocol.specs.Words.{Exec, Key, Wid, Ending, NodeId, Vote, Choice, Abandon, ToCommit, Content, Body, Get, Note, Accepted, Decide, TooOld, Voted, same_version, same_exec}
use Rattle.protocol.specs.Lists.{IsIn, one_when}
use Rattle.protocol.specs.Quorums.{quorum}
use Rattle.protocol.specs.declared.Held.{Held}
use Rattle.protocol.specs.declared.Fate.TheVariants.{Aborted}
use Rattle.protocol.specs.declared.TallyOut.{TallyOut}
use Rattle.protocol.specs.declared.TallyOut.TheVariants.{Wait, FastCommit, FastAbandon, Propose}
use Rattle.protocol.specs.Client.State.{turn_when, Rules, ClientState, Phase, Turn, CountedVote, Answer, walk}
use Rattle.protocol.specs.Client.State.Phase.{Between, Running, Prepared}
use Rattle.protocol.specs.Client.Attempts.{prepare_if_ready, prepare_when, ran, go, can_go, has_pending, question}
use Rattle.protocol.specs.Client.Deciding.{rewound, relabelled, puts_again, next_execution, noted, ended, conclude, decide, give_up, other_value, is_change, cut}
use Rattle.protocol.specs.Client.Following.{Effect, prepare_if_idle, with_answer, rewind, follow_running, note_running, place_of, note_at, note_on}
use Rattle.protocol.specs.Client.Following.Effect.{Nothing, Sure, Follow}
use Rattle.protocol.specs.Client.Counting.{hurried, on_tally, prepared, propose, counts_vote, counts_accept, sender}
use Rattle.protocol.specs.Client.Step.{from_replica, Input, client_step, comes_running, comes_prepared, comes, told_running, on_ran, on_hurry, is_warden}
use Rattle.protocol.specs.Client.Step.Input.{Goes, Runs, Hurries, Comes}
use Rattle.protocol.proofs.ListsLemmas.{IsIn-cases}
use Rattle.law_steps.proofs.ClientActs.{IsUnderWay}

abbrev IsNoGet : Body → Type 0
IsNoGet (Get x k) = ⊥
IsNoGet _ = Unit {0}

-- P holds of each execution for which one of the bodies asks
abbrev AsksFor : (Exec → Type 0) → List Body → Type 0
AsksFor P bs = (x : Exec) (k : Key) → IsIn (Get x k) bs → P x

asks_none : (P : Exec → Type 0) → AsksFor P []
asks_none P x k i = absurd i

asks_one : (P : Exec → Type 0) (b : Body) → IsNoGet b → AsksFor P (b ∷ [])
asks_one P b n x k (inl z) = absurd (subst IsNoGet (sym z) n)
asks_one P b n x k (inr i) = absurd i

asks_both : (P : Exec → Type 0) (bs cs : List Body) → AsksFor P bs → AsksFor P cs → AsksFor P (bs ++ cs)
asks_both P bs cs f g x k i = elim (IsIn-cases (Get x k) bs cs i) [ inl j ↦ f x k j | inr j ↦ g x k j ]

asks_when : (P : Exec → Type 0) (t : Bool) (b : Body) → IsNoGet b → AsksFor P (one_when t b)
asks_when P true b n = asks_one P b n
asks_when P false b n = asks_none P

module _ (r : Rules) (P : Exec → Type 0) where
  abbrev Asks : Turn → Type 0
  Asks t = AsksFor P t.sent

  prepares : (c : ClientState) (sent : List Body) → AsksFor P sent → Asks (prepare_if_ready r c sent)
  unfolding prepare_if_ready
  prepares c sent a = go (walk r c).ending (list_all (λ a. a.label.sure) c.answers)
    where
      go : (o : Option Ending) (t : Bool) → Asks (prepare_when r c sent o t)
      go (Some e) true = asks_both P sent _ a (asks_one P _ tt)
      go (Some e) false = a
      go None t = a

  goes_on : (c : ClientState) (sent : List Body) → AsksFor P sent → Asks (next_execution r c sent)
  unfolding next_execution
  goes_on c sent a = go (list_any other_value c.answers)
    where
      go : (t : Bool) →
          Asks (cond t (record { state = rewound c (cut c.answers); sent = sent }) (prepare_if_ready r (relabelled c) (sent ++ puts_again r (relabelled c))))
      go true = a
      go false = prepares (relabelled c) _ (asks_both P sent _ a (asks_when P _ _ tt))

  concludes : (c : ClientState) (d : Choice) (sent : List Body) → AsksFor P sent → Asks (conclude r c d sent)
  unfolding conclude
  concludes c ToCommit sent a = a
  concludes c Abandon sent a = go (list_any is_change c.answers && nat_lt (c.exec.eid + 1) r.execs)
    where
      go : (t : Bool) → Asks (cond t (next_execution r (noted c Abandon) sent) (record { state = ended (noted c Abandon) Aborted; sent = sent }))
      go true = goes_on (noted c Abandon) sent a
      go false = a

  decides : (c : ClientState) (k : Content) (d : Choice) → Asks (decide r c k d)
  unfolding decide
  decides c k d = concludes c d _ (asks_one P _ tt)

  gives_up : (c : ClientState) → Asks (give_up c)
  unfolding give_up
  gives_up c = asks_one P _ tt

  prepares_idle : (c : ClientState) → Asks (prepare_if_idle r c)
  unfolding prepare_if_idle
  prepares_idle c = go (has_pending c.phase)
    where
      go : (t : Bool) → Asks (cond t (record { state = c; sent = [] }) (prepare_if_ready r c []))
      go true = asks_none P
      go false = prepares c [] (asks_none P)

  rewinds : (c : ClientState) (i : ℕ) (new : Held) → Asks (rewind r c i new)
  unfolding rewind
  rewinds c i new = go (nat_lt (c.exec.eid + 1) r.execs) _
    where
      go : (t : Bool) (s : ClientState) → Asks (cond t (record { state = s; sent = [] }) (give_up c))
      go true s = asks_none P
      go false s = gives_up c

  follows : (c : ClientState) (i : ℕ) (a : Answer) (new : Held) (f : Effect) → Asks (follow_running r c i a new f)
  unfolding follow_running
  follows c i a new Nothing = asks_none P
  follows c i a new Sure = prepares_idle _
  follows c i a new Follow = go (int_eq a.label.value new.value)
    where
      go : (t : Bool) → Asks (cond t (prepare_if_idle r (with_answer c i (record { label = new; next = None }))) (rewind r c i new))
      go true = prepares_idle _
      go false = rewinds c i new

  notes_at : (c : ClientState) (new : Held) (lost : Option Wid) (o : Option ℕ) → Asks (note_at r c new lost o)
  unfolding note_at
  notes_at c new lost None = asks_none P
  notes_at c new lost (Some i) = follows c i _ new _

  notes_on : (c : ClientState) (k : Key) (new : Held) (lost : Option Wid) (asked : Bool) → Asks (note_on r c k new lost asked)
  unfolding note_on
  notes_on c k new lost true = asks_none P
  notes_on c k new lost false = notes_at c new lost (place_of k 0 (walk r c).keys)

  when : (t : Bool) (c : ClientState) (u : Turn) → Asks u → Asks (turn_when t c u)
  when true c u a = a
  when false c u a = asks_none P

  told : (c : ClientState) (d : Choice) → Asks (told_running c d)
  told c ToCommit = asks_none P
  told c Abandon = asks_none P

  running : (c : ClientState) (pending : Bool) (from : NodeId) (b : Body) → Asks (comes_running r c pending from b)
  unfolding comes_running note_running
  running c pending from (Note v k wid value sure lost) = when (same_version v c.exec.ver) c _ (notes_on c k _ lost _)
  running c pending from (TooOld v w) = when (same_version v c.exec.ver) c _ (gives_up c)
  running c pending from (Decide x d k) = when (is_warden from && same_exec x c.exec) c _ (told c d)
  running c pending from _ = asks_none P

  proposes : (c : ClientState) (k : Content) (votes : List CountedVote) (d : Choice) → Asks (propose c k votes d)
  unfolding propose
  proposes c k votes d = asks_one P _ tt

  tallies : (c : ClientState) (k : Content) (votes : List CountedVote) (o : TallyOut) → Asks (on_tally r c k votes o)
  unfolding on_tally
  tallies c k votes FastCommit = decides _ k ToCommit
  tallies c k votes FastAbandon = decides _ k Abandon
  tallies c k votes (Propose d) = proposes c k votes d
  tallies c k votes Wait = asks_none P

  votes_count : (c : ClientState) (k : Content) (votes : List CountedVote) (x : Exec) (j : ℕ) (v : Vote) → Asks (counts_vote r c k votes x j v)
  unfolding counts_vote
  votes_count c k votes x j v = when _ c _ (tallies c k _ _)

  accepts_count : (c : ClientState) (k : Content) (votes : List CountedVote) (d : Choice) (accepts : List ℕ) (x : Exec) (view j : ℕ) →
      Asks (counts_accept r c k votes d accepts x view j)
  unfolding counts_accept
  accepts_count c k votes d accepts x view j =
      let now = prepared c k votes (Some d) (accepts ++ j ∷ []) in
      when (same_exec x c.exec && ((view == 0) && not (list_any (λ i. i == j) accepts))) c
      (turn_when (nat_le (quorum r.replicas) (suc (length accepts))) now (decide r now k d))
      (when (nat_le (quorum r.replicas) (suc (length accepts))) now (decide r now k d) (decides now k d))

  from_some : (c : ClientState) (f : ℕ → Turn) (o : Option ℕ) → ((j : ℕ) → Asks (f j)) → Asks (from_replica c f o)
  from_some c f None a = asks_none P
  from_some c f (Some j) a = a j

  prepared_comes : (c : ClientState) (k : Content) (votes : List CountedVote) (o : Option Choice) (accepts : List ℕ) (from : NodeId) (b : Body) →
      Asks (comes_prepared r c k votes o accepts from b)
  unfolding comes_prepared
  prepared_comes c k votes o accepts from (Note v key wid value sure lost) = when (same_version v c.exec.ver) c _ (asks_none P)
  prepared_comes c k votes o accepts from (Decide x d content) = when (is_warden from && same_exec x c.exec) c _ (concludes c d [] (asks_none P))
  prepared_comes c k votes None accepts from (Voted x v) = from_some c _ (sender r.replicas from) (λ j. votes_count c k votes x j v)
  prepared_comes c k votes (Some d) accepts from (Accepted x view) = from_some c _ (sender r.replicas from) (λ j. accepts_count c k votes d accepts x view j)
  prepared_comes c k votes o accepts from _ = asks_none P

  envelope_comes : (c : ClientState) (p : Phase) (from : NodeId) (b : Body) → Asks (comes r c p from b)
  unfolding comes
  envelope_comes c Between from b = asks_none P
  envelope_comes c (Running pending given) from b = running c pending from b
  envelope_comes c (Prepared k votes o accepts) from b = prepared_comes c k votes o accepts from b

  asks_question : (x : Exec) (o : Option Key) → P x → AsksFor P (question x o)
  asks_question x None a y k i = absurd i
  asks_question x (Some l) a y k (inl z) = subst P (ap_exec z) a
    where
      ap_exec : Get y k ≡ Get x l → x ≡ y
      ap_exec e = cc
  asks_question x (Some l) a y k (inr i) = absurd i

  runs : (c : ClientState) (given : Bool) → P c.exec → Asks (ran r c given)
  unfolding ran
  runs c given a = prepares _ _ (asks_both P _ _ (asks_when P _ _ tt) (asks_question c.exec (walk r c).asks a))

  runs_where : (c : ClientState) (p : Phase) (t : Turn) → c.phase ≡ p → (IsUnderWay c.phase → P c.exec) → on_ran r c p ≡ Some t → Asks t
  unfolding on_ran
  runs_where c (Running true given) t e a q = let f : ran r c given ≡ t = cc in subst Asks f (runs c given (a (rw e tt)))
  runs_where c _ t e a q = cc

  hurries : (c : ClientState) (p : Phase) (t : Turn) → on_hurry r c p ≡ Some t → Asks t
  unfolding on_hurry
  hurries c (Prepared k votes None accepts) t q =
      let f : propose c k votes (hurried r.replicas votes) ≡ t = cc in subst Asks f (proposes c k votes (hurried r.replicas votes))
  hurries c _ t q = cc

  begins : (c : ClientState) → Asks (go r c)
  unfolding go
  begins c = asks_none P

  steps : (c : ClientState) (i : Input) (t : Turn) → (IsUnderWay c.phase → P c.exec) → client_step r c i ≡ Some t → Asks t
  unfolding client_step
  steps c Goes t a q = begun (can_go r c) q
    where
      begun : (u : Bool) → then_some u (go r c) ≡ Some t → Asks t
      begun true q = let f : go r c ≡ t = cc in subst Asks f (begins c)
      begun false q = cc
  steps c Runs t a q = runs_where c c.phase t refl a q
  steps c Hurries t a q = hurries c c.phase t q
  steps c (Comes from b) t a q = let f : comes r c c.phase from b ≡ t = cc in subst Asks f (envelope_comes c c.phase from b)

-- each execution for which a client asks is the one under way
pub asks_for_own : (r : Rules) (c : ClientState) (i : Input) (t : Turn) → client_step r c i ≡ Some t → (x : Exec) (k : Key) → IsIn (Get x k) t.sent →
    (x ≡ c.exec) × IsUnderWay c.phase
asks_for_own r c i t q = steps r (λ x. (x ≡ c.exec) × IsUnderWay c.phase) c i t (λ u. (refl, u)) q

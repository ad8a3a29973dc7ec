-- What the client of a transaction does that is told first values alone, and gets Commit votes alone.
use Rattle.std.proofs.Common.{◌≡◌, ◌≢◌, ℕ, ℤ, ◌<◌, ◌≤◌, ◌⊎◌, inl, inr, arith, refl, ap, sym, ◌∙◌, subst, true, false, Bool, List, [], ◌∷◌, ◌++◌, Option, Some, None, get_or, set}
use Rattle.std.specs.Prelude.{cond, not, ◌&&◌, ◌==◌, map, suc, zero, nat_le, nat_lt}
use Rattle.std.specs.List.{list_any, list_all}
use Rattle.protocol.specs.Words.{Exec, Key, Version, Wid, Ending, NodeId, Client, Replica, Warden, Body, Note, Prepare, Decide, TooOld, Voted, ToCommit, Content, Vote, Commit, first_wid, before, same_exec, same_version, same_wid, wid_before, same_key}
use Rattle.protocol.specs.declared.Held.{Held}
use Rattle.protocol.specs.declared.TallyOut.{TallyOut}
use Rattle.std.specs.Bool.{then_some}
use Rattle.protocol.specs.Replica.Held.{first_value}
use Rattle.protocol.specs.Replica.Votes.{is_commit_vote}
use Rattle.protocol.specs.Client.State.{turn_when, Rules, ClientState, Turn, CountedVote, Answer, idle, walk, content}
use Rattle.protocol.specs.Client.State.Phase.{Prepared}
use Rattle.protocol.specs.Client.Attempts.{prepare_if_ready, has_pending}
use Rattle.protocol.specs.Client.Deciding.{decide, conclude, give_up}
use Rattle.protocol.specs.Client.Following.{Effect, prepare_if_idle, with_answer, surely, follow_running, note_prepared, note_running, note_on, note_at, place_of, answer_at, no_answer, answered, answers_question, effect, prepared_at, follow_prepared, next_label}
use Rattle.protocol.specs.Client.Following.Effect.{Nothing, Sure, Follow}
use Rattle.protocol.specs.Client.Counting.{tally_says, on_tally, prepared, counts_vote, count_votes}
use Rattle.protocol.specs.Client.Step.{from_replica, comes_running, comes_prepared, told_running, is_warden}
use Rattle.protocol.proofs.TestLemmas.{true_false, eqb_is}
use Rattle.protocol.proofs.ListsLemmas.{IsIn-cases}
use Rattle.protocol.proofs.NamesLemmas.{same_version_tells, same_exec_tells, key_itself}
use Rattle.std.proofs.lemmas.Bool.Decides.{nat_tests}
use Rattle.law_steps.proofs.VotesLemmas.{any_true}
use Rattle.law_progress.proofs.CommitTallies.{AllCommit, IsCounted, commits_or_waits}

-- an answer that is a first value
abbrev pub clean : ℤ → Answer
clean u = record { label = first_value u; next = None }

all_sure : (vs : List ℤ) → list_all (λ (a : Answer). a.label.sure) (map clean vs) ≡ true
all_sure [] = refl
all_sure (v ∷ vs) = all_sure vs

set_clean : (vs : List ℤ) (i : ℕ) → set (map clean vs) i (record { label = surely (get_or (map clean vs) i no_answer).label; next = None }) ≡ map clean vs
set_clean [] i = refl
set_clean (v ∷ vs) zero = refl
set_clean (v ∷ vs) (suc i) = ap (λ (l : List Answer). clean v ∷ l) (set_clean vs i)

get_clean : (vs : List ℤ) (i : ℕ) → (get_or (map clean vs) i no_answer).label.wid ≡ first_wid
get_clean [] i = refl
get_clean (v ∷ vs) zero = refl
get_clean (v ∷ vs) (suc i) = get_clean vs i

-- a first value can only make a first value sure
effect_first : (old : Held) (u : ℤ) → old.wid ≡ first_wid → effect old (first_value u) None ≡ Sure
unfolding wid_before before same_version same_wid
effect_first old u e = subst (λ (z : Wid). effect (record { wid = z; value = old.value; sure = old.sure }) (first_value u) None ≡ Sure) (sym e) refl

pub map_more : (vs : List ℤ) (u : ℤ) → map clean vs ++ clean u ∷ [] ≡ map clean (vs ++ u ∷ [])
map_more [] u = refl
map_more (v ∷ vs) u = ap (λ (l : List Answer). clean v ∷ l) (map_more vs u)

module _ (r : Rules) (s : ClientState) (vs : List ℤ) (firsts : s.answers ≡ map clean vs) where
  pub ready_not : (sent : List Body) → (walk r s).ending ≡ None → prepare_if_ready r s sent ≡ record { state = s; sent = sent }
  unfolding prepare_if_ready
  ready_not sent e = rw e refl

  pub ready : (sent : List Body) (e : Ending) → (walk r s).ending ≡ Some e
      → prepare_if_ready r s sent
      ≡ record { state = record s { phase = Prepared (content r s e) [] None [] }; sent = sent ++ Prepare s.exec (content r s e) ∷ [] }
  unfolding prepare_if_ready
  ready sent e q = rw (q, sure) refl
    where
      sure : list_all (λ (a : Answer). a.label.sure) s.answers ≡ true
      sure = subst (λ (l : List Answer). list_all (λ (a : Answer). a.label.sure) l ≡ true) (sym firsts) (all_sure vs)

  -- while it runs and has not ended, a Note about a read changes nothing
  module _ (unended : has_pending s.phase ≡ false → (walk r s).ending ≡ None) where
    settle_none : prepare_if_idle r s ≡ idle s
    unfolding prepare_if_idle
    settle_none = go (has_pending s.phase) refl
      where
        go : (t : Bool) → has_pending s.phase ≡ t → cond t (idle s) (prepare_if_ready r s []) ≡ idle s
        go true e = refl
        go false e = ready_not [] (unended e)

    set_same : (i : ℕ) → with_answer s i (record { label = surely (answer_at s i).label; next = None }) ≡ s
    set_same i = ap (λ (l : List Answer). record s { answers = l })
        (subst (λ (l : List Answer). set l i (record { label = surely (get_or l i no_answer).label; next = None }) ≡ l) (sym firsts) (set_clean vs i))

    follow_none : (i : ℕ) (u : ℤ) → follow_running r s i (answer_at s i) (first_value u) (effect (answer_at s i).label (first_value u) None) ≡ idle s
    unfolding follow_running
    follow_none i u = ap (λ (f : Effect). follow_running r s i (answer_at s i) (first_value u) f) (effect_first (answer_at s i).label u wid)
        ∙ ap (λ (c : ClientState). prepare_if_idle r c) (set_same i) ∙ settle_none
      where
        wid : (answer_at s i).label.wid ≡ first_wid
        wid = subst (λ (l : List Answer). (get_or l i no_answer).label.wid ≡ first_wid) (sym firsts) (get_clean vs i)

    note_none : (u : ℤ) (o : Option ℕ) → note_at r s (first_value u) None o ≡ idle s
    unfolding note_at
    note_none u None = refl
    note_none u (Some i) = follow_none i u

    -- the body answers the question
    abbrev pub IsAnswer : Bool → Body → Type 0
    IsAnswer pending b = (k : Key) × (wid : Wid) × (value : ℤ) × (sure : Bool) × (lost : Option Wid) × (b ≡ Note s.exec.ver k wid value sure lost) × (pending
        ≡ false) × ((walk r s).asks ≡ Some k)

    -- what came while it runs: nothing that matters, or the answer to its question
    pub data Hears (pending : Bool) (b : Body) (t : Turn) : Type 0 where
      Ignored : (IsAnswer pending b → ⊥) → t ≡ idle s → Hears pending b t
      Answered : pending ≡ false → (k : Key) (u : ℤ) → (walk r s).asks ≡ Some k → t ≡ idle (answered s (first_value u)) → Hears pending b t

    note_heard : (pending : Bool) (v : Version) (k : Key) (wid : Wid) (value : ℤ) (sure : Bool) (lost : Option Wid) (u : ℤ) →
        record { wid = wid; value = value; sure = sure } ≡ first_value u → lost ≡ None
        → Hears pending (Note v k wid value sure lost) (note_running r s pending k (record { wid = wid; value = value; sure = sure }) lost)
    unfolding note_running note_on
    note_heard pending v k wid value sure lost u e f = subst (λ (z : Held). Hears pending (Note v k wid value sure lost) (note_running r s pending k z lost)) (sym e)
        (subst (λ (z : Option Wid). Hears pending (Note v k wid value sure lost) (note_running r s pending k (first_value u) z)) (sym f)
        (go pending refl (walk r s).asks refl))
      where
        not_this : (l : Key) → same_key k l ≡ false → (walk r s).asks ≡ Some l → IsAnswer pending (Note v k wid value sure lost) → ⊥
        not_this l z q a = let g : a.0 ≡ k = cc a.5 in let h : a.0 ≡ l = (let y = sym a.7 ∙ q in cc) in
            true_false (sym (key_itself k) ∙ ap (λ (y : Key). same_key k y) (sym g ∙ h) ∙ z)

        asked : (l : Key) (z : Bool) → same_key k l ≡ z → pending ≡ false → (walk r s).asks ≡ Some l →
            Hears pending (Note v k wid value sure lost) (note_on r s k (first_value u) None z)
        asked l true z p q = Answered p l u q refl
        asked l false z p q = Ignored (not_this l z q) (note_none u (place_of k 0 (walk r s).keys))

        go : (t : Bool) → pending ≡ t → (o : Option Key) → (walk r s).asks ≡ o →
            Hears pending (Note v k wid value sure lost) (note_on r s k (first_value u) None (not t && answers_question o k))
        go true p o q = Ignored (λ a. let z = a.6 in cc) (note_none u (place_of k 0 (walk r s).keys))
        go false p None q = Ignored (λ a. let z = a.7 in cc) (note_none u (place_of k 0 (walk r s).keys))
        go false p (Some l) q = asked l (same_key k l) refl p q

    pub running_hears : (pending : Bool) (from : NodeId) (b : Body) → (is_warden from ≡ true → ⊥)
        → ((v : Version) (k : Key) (wid : Wid) (value : ℤ) (sure : Bool) (lost : Option Wid) → b ≡ Note v k wid value sure lost → v ≡ s.exec.ver →
        ((u : ℤ) × (record { wid = wid; value = value; sure = sure } ≡ first_value u)) × (lost ≡ None))
        → ((v u : Version) → b ≡ TooOld v u → v ≡ s.exec.ver → ⊥) → Hears pending b (comes_running r s pending from b)
    unfolding comes_running
    running_hears pending from (Note v k wid value sure lost) ward note old = go (same_version v s.exec.ver) (same_version_tells v s.exec.ver)
      where
        go : (t : Bool) → ((t ≡ true) × (v ≡ s.exec.ver)) ⊎ ((t ≡ false) × (v ≢ s.exec.ver)) →
            Hears pending (Note v k wid value sure lost) (turn_when t s (note_running r s pending k (record { wid = wid; value = value; sure = sure }) lost))
        go true (inl e) = let n = note v k wid value sure lost refl e.1 in note_heard pending v k wid value sure lost n.0.0 n.0.1 n.1
        go true (inr e) = cc
        go false (inl e) = cc
        go false (inr e) = Ignored (λ a. let z = a.5 in let g : v ≡ s.exec.ver = cc in e.1 g) refl
    running_hears pending from (TooOld v u) ward note old = go (same_version v s.exec.ver) (same_version_tells v s.exec.ver)
      where
        go : (t : Bool) → ((t ≡ true) × (v ≡ s.exec.ver)) ⊎ ((t ≡ false) × (v ≢ s.exec.ver)) → Hears pending (TooOld v u) (turn_when t s (give_up s))
        go true (inl e) = absurd (old v u refl e.1)
        go true (inr e) = cc
        go false e = Ignored (λ a. let z = a.5 in cc) refl
    running_hears pending from (Decide x d k) ward note old = go (is_warden from) refl
      where
        go : (t : Bool) → is_warden from ≡ t → Hears pending (Decide x d k) (turn_when (t && same_exec x s.exec) s (told_running s d))
        go true e = absurd (ward e)
        go false e = Ignored (λ a. let z = a.5 in cc) refl
    running_hears pending from b ward note old = Ignored (λ a. other a) refl
      where
        other : IsAnswer pending b → ⊥
        other a = let z = a.5 in cc

-- what came while it is prepared, with Commit votes alone
pub data Counts (r : Rules) (s : ClientState) (k : Content) (votes : List CountedVote) (from : NodeId) (b : Body) (t : Turn) : Type 0 where
  Ignores : (l : List Answer) → t ≡ idle (record s { answers = l }) →
      ((j : ℕ) → from ≡ Replica j → 0 < j → j ≤ r.replicas → b ≡ Voted s.exec Commit → IsCounted j votes) → Counts r s k votes from b t
  Adds : (j : ℕ) → from ≡ Replica j → nat_le r.replicas (count_votes is_commit_vote (votes ++ record { replica = j; vote = Commit } ∷ [])) ≡ false
      → t ≡ idle (prepared s k (votes ++ record { replica = j; vote = Commit } ∷ []) None []) → Counts r s k votes from b t
  Commits : (more : List CountedVote) → t ≡ decide r (prepared s k more None []) k ToCommit → Counts r s k votes from b t

module _ (r : Rules) (s : ClientState) (k : Content) (votes : List CountedVote) (accepts : List ℕ) (phase : s.phase
    ≡ Prepared k votes None accepts) (all : AllCommit votes) where
  more_commit : (j : ℕ) → AllCommit (votes ++ record { replica = j; vote = Commit } ∷ [])
  more_commit j b i = elim (IsIn-cases b votes (record { replica = j; vote = Commit } ∷ []) i) [
    | inl z ↦ all b z
    | inr z ↦ elim z [ inl e ↦ ap (λ (y : CountedVote). y.vote) e | inr f ↦ absurd f ]
  ]

  vote_heard : (x : Exec) (j : ℕ) (v : Vote) → (x.ver ≡ s.exec.ver → v ≡ Commit) → Counts r s k votes (Replica j) (Voted x v) (counts_vote r s k votes x j v)
  unfolding counts_vote on_tally
  vote_heard x j v known = go (same_exec x s.exec) (same_exec_tells x s.exec) (list_any (λ (b : CountedVote). b.replica == j) votes) refl
    where
      commit : v ≡ Commit → Counts r s k votes (Replica j) (Voted x v) (on_tally r s k (votes ++ record { replica = j; vote = v } ∷ []) (tally_says r.replicas (votes ++ record { replica = j; vote = v } ∷ [])))
      commit e = subst (λ (z : Vote). Counts r s k votes (Replica j) (Voted x v) (on_tally r s k (votes ++ record { replica = j; vote = z } ∷ []) (tally_says r.replicas (votes ++ record { replica = j; vote = z } ∷ [])))) (sym e)
          (elim (commits_or_waits r.replicas (votes ++ record { replica = j; vote = Commit } ∷ []) (more_commit j)) [
            | inl z ↦ Commits (votes ++ record { replica = j; vote = Commit } ∷ []) (ap (λ (o : TallyOut). on_tally r s k (votes ++ record { replica = j; vote = Commit } ∷ []) o) z)
            | inr z ↦ Adds j refl z.1 (ap (λ (o : TallyOut). on_tally r s k (votes ++ record { replica = j; vote = Commit } ∷ []) o) z.0)
          ])

      go : (t : Bool) → ((t ≡ true) × (x ≡ s.exec)) ⊎ ((t ≡ false) × (x ≢ s.exec)) → (u : Bool) → list_any (λ (b : CountedVote). b.replica == j) votes ≡ u
          → Counts r s k votes (Replica j) (Voted x v) (turn_when (t && not u) s (on_tally r s k (votes ++ record { replica = j; vote = v } ∷ []) (tally_says r.replicas (votes ++ record { replica = j; vote = v } ∷ []))))
      go false (inl e) u q = cc
      go false (inr e) u q = Ignores s.answers refl (λ i f a b g. let y : x ≡ s.exec = cc in absurd (e.1 y))
      go true (inr e) u q = cc
      go true (inl e) true q = Ignores s.answers refl (λ i f a b g. let y : j ≡ i = cc in let c = any_true (λ (b : CountedVote). b.replica == j) votes q in
          (c.0, c.1, eqb_is c.0.replica j c.2 ∙ y))
      go true (inl e) false q = commit (known (ap (λ (y : Exec). y.ver) e.1))

  pub prepared_hears : (from : NodeId) (b : Body) → (is_warden from ≡ true → ⊥) → ((x : Exec) (v : Vote) → b ≡ Voted x v → x.ver ≡ s.exec.ver → v ≡ Commit) →
      Counts r s k votes from b (comes_prepared r s k votes None accepts from b)
  unfolding comes_prepared note_prepared
  prepared_hears from (Note v key wid value sure lost) ward vote = go (same_version v s.exec.ver)
    where
      go : (t : Bool) → Counts r s k votes from (Note v key wid value sure lost) (turn_when t s (idle (note_prepared r s key (record { wid = wid; value = value; sure = sure }) lost)))
      go true = by (place_of key 0 (walk r s).keys)
        where
          at_place : (i : ℕ) (f : Effect) →
              Counts r s k votes from (Note v key wid value sure lost) (idle (follow_prepared s i (answer_at s i) (record { wid = wid; value = value; sure = sure }) f))
          at_place i Nothing = Ignores s.answers refl (λ j f a b g. cc)
          at_place i Sure = Ignores _ refl (λ j f a b g. cc)
          at_place i Follow = Ignores _ refl (λ j f a b g. cc)

          by : (o : Option ℕ) → Counts r s k votes from (Note v key wid value sure lost) (idle (prepared_at s (record { wid = wid; value = value; sure = sure }) lost o))
          by None = Ignores s.answers refl (λ j f a b g. cc)
          by (Some i) = at_place i (effect (next_label (answer_at s i)) (record { wid = wid; value = value; sure = sure }) lost)
      go false = Ignores s.answers refl (λ j f a b g. cc)
  prepared_hears from (Decide x d l) ward vote = go (is_warden from) refl
    where
      go : (t : Bool) → is_warden from ≡ t → Counts r s k votes from (Decide x d l) (turn_when (t && same_exec x s.exec) s (conclude r s d []))
      go true e = absurd (ward e)
      go false e = Ignores s.answers refl (λ j f a b g. cc)
  prepared_hears (Replica j) (Voted x v) ward vote = go (nat_lt 0 j && nat_le j r.replicas) refl
    where
      go : (t : Bool) → (nat_lt 0 j && nat_le j r.replicas) ≡ t →
          Counts r s k votes (Replica j) (Voted x v) (from_replica s (λ i. counts_vote r s k votes x i v) (then_some t j))
      go true e = vote_heard x j v (λ q. vote x v refl q)
      go false e = Ignores s.answers refl (λ i f a b g. let y : j ≡ i = cc in
          absurd (true_false (sym (in_bounds i a b) ∙ ap (λ (z : ℕ). nat_lt 0 z && nat_le z r.replicas) (sym y) ∙ e)))
        where
          in_bounds : (i : ℕ) → 0 < i → i ≤ r.replicas → (nat_lt 0 i && nat_le i r.replicas) ≡ true
          in_bounds i a b = grind (arith, nat_tests)
  prepared_hears (Client j) (Voted x v) ward vote = Ignores s.answers refl (λ i f a b g. cc)
  prepared_hears (Warden j) (Voted x v) ward vote = Ignores s.answers refl (λ i f a b g. cc)
  prepared_hears from b ward vote = Ignores s.answers refl (λ j f a c g. cc)

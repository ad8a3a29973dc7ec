-- Only a step that begins an attempt changes how many transactions were begun.
use Rattle.std.proofs.Common.{◌≡◌, ℕ, refl, true, false, Bool, List, [], ◌∷◌, ◌++◌, Option, Some, None}
use Rattle.std.specs.Prelude.{cond, ◌+◌, ◌&&◌, nat_lt}
use Rattle.std.specs.List.{list_any, list_all}
use Rattle.std.specs.Ordering.{int_eq}
use Rattle.protocol.specs.Words.{Exec, Key, Wid, Ending, NodeId, Body, Note, Accepted, Decide, TooOld, Voted, Choice, Abandon, ToCommit, Content, Vote}
use Rattle.protocol.specs.declared.Held.{Held}
use Rattle.protocol.specs.declared.TallyOut.{TallyOut}
use Rattle.protocol.specs.declared.TallyOut.TheVariants.{Wait, FastCommit, FastAbandon, Propose}
use Rattle.protocol.specs.declared.Fate.TheVariants.{Aborted}
use Rattle.protocol.specs.Client.State.{turn_when, Rules, ClientState, Phase, Turn, CountedVote, Answer, idle, walk}
use Rattle.protocol.specs.Client.State.Phase.{Between, Running, Prepared}
use Rattle.protocol.specs.Client.Attempts.{prepare_if_ready, prepare_when, ran, has_pending}
use Rattle.protocol.specs.Client.Deciding.{noted, ended, rewound, relabelled, puts_again, next_execution, conclude, decide, give_up, other_value, is_change, cut}
use Rattle.protocol.specs.Client.Following.{Effect, prepare_if_idle, with_answer, rewind, follow_running, follow_prepared, note_running, note_prepared, prepared_at, place_of, answer_at, effect, note_at, note_on, next_label}
use Rattle.protocol.specs.Client.Following.Effect.{Nothing, Sure, Follow}
use Rattle.protocol.specs.Client.Counting.{tally_says, on_tally, prepared, propose, counts_vote, counts_accept, sender}
use Rattle.protocol.specs.Client.Step.{from_replica, comes_running, comes_prepared, comes, told_running}

-- the turn leaves how many were begun
abbrev pub Same : ClientState → Turn → Type 0
Same c t = t.state.begun ≡ c.begun

module _ (r : Rules) where
  settle : (c : ClientState) (sent : List Body) → Same c (prepare_if_ready r c sent)
  unfolding prepare_if_ready
  settle c sent = go (walk r c).ending (list_all (λ a. a.label.sure) c.answers)
    where
      go : (e : Option Ending) (t : Bool) → Same c (prepare_when r c sent e t)
      go (Some e) true = refl
      go (Some e) false = refl
      go None t = refl

  settle_idle : (c : ClientState) → Same c (prepare_if_idle r c)
  unfolding prepare_if_idle
  settle_idle c = go (has_pending c.phase)
    where
      go : (t : Bool) → Same c (cond t (idle c) (prepare_if_ready r c []))
      go true = refl
      go false = settle c []

  rewinds : (c : ClientState) (i : ℕ) (new : Held) → Same c (rewind r c i new)
  unfolding rewind rewound give_up
  rewinds c i new = go (nat_lt (c.exec.eid + 1) r.execs) _
    where
      go : (t : Bool) (as' : List Answer) → Same c (cond t (idle (rewound c as')) (give_up c))
      go true as' = refl
      go false as' = refl

  follows : (c : ClientState) (i : ℕ) (a : Answer) (new : Held) (f : Effect) → Same c (follow_running r c i a new f)
  unfolding follow_running
  follows c i a new Nothing = refl
  follows c i a new Sure = settle_idle (with_answer c i _)
  follows c i a new Follow = go (int_eq a.label.value new.value)
    where
      go : (t : Bool) → Same c (cond t (prepare_if_idle r (with_answer c i (record { label = new; next = None }))) (rewind r c i new))
      go true = settle_idle (with_answer c i (record { label = new; next = None }))
      go false = rewinds c i new

  notes : (c : ClientState) (k : Key) (new : Held) (lost : Option Wid) (asked : Bool) → Same c (note_on r c k new lost asked)
  unfolding note_on note_at
  notes c k new lost true = refl
  notes c k new lost false = go (place_of k 0 (walk r c).keys)
    where
      go : (o : Option ℕ) → Same c (note_at r c new lost o)
      go None = refl
      go (Some i) = follows c i (answer_at c i) new (effect (answer_at c i).label new lost)

  note_keeps : (c : ClientState) (k : Key) (new : Held) (lost : Option Wid) → (note_prepared r c k new lost).begun ≡ c.begun
  unfolding note_prepared
  note_keeps c k new lost = go (place_of k 0 (walk r c).keys)
    where
      by : (i : ℕ) (f : Effect) → (follow_prepared c i (answer_at c i) new f).begun ≡ c.begun
      by i Nothing = refl
      by i Sure = refl
      by i Follow = refl

      go : (o : Option ℕ) → (prepared_at c new lost o).begun ≡ c.begun
      go None = refl
      go (Some i) = by i (effect (next_label (answer_at c i)) new lost)

  next : (c : ClientState) (sent : List Body) → Same c (next_execution r c sent)
  unfolding next_execution rewound relabelled
  next c sent = go (list_any other_value c.answers)
    where
      go : (t : Bool) → Same c (cond t (record { state = rewound c (cut c.answers); sent = sent }) (prepare_if_ready r (relabelled c) (sent ++ puts_again r (relabelled c))))
      go true = refl
      go false = settle (relabelled c) _

  concludes : (c : ClientState) (d : Choice) (sent : List Body) → Same c (conclude r c d sent)
  unfolding conclude
  concludes c ToCommit sent = refl
  concludes c Abandon sent = go (list_any is_change c.answers && nat_lt (c.exec.eid + 1) r.execs)
    where
      go : (t : Bool) → Same c (cond t (next_execution r (noted c Abandon) sent) (record { state = ended (noted c Abandon) Aborted; sent = sent }))
      go true = next (noted c Abandon) sent
      go false = refl

  tallies : (c : ClientState) (k : Content) (votes : List CountedVote) (o : TallyOut) → Same c (on_tally r c k votes o)
  unfolding on_tally decide propose
  tallies c k votes FastCommit = concludes (prepared c k votes None []) ToCommit _
  tallies c k votes FastAbandon = concludes (prepared c k votes None []) Abandon _
  tallies c k votes (Propose d) = refl
  tallies c k votes Wait = refl

  when_keeps : (t : Bool) (c c' : ClientState) (u : Turn) → c'.begun ≡ c.begun → u.state.begun ≡ c.begun → Same c (turn_when t c' u)
  when_keeps true c c' u e f = f
  when_keeps false c c' u e f = e

  votes_keep : (c : ClientState) (k : Content) (votes : List CountedVote) (x : Exec) (j : ℕ) (v : Vote) → Same c (counts_vote r c k votes x j v)
  unfolding counts_vote
  votes_keep c k votes x j v = when_keeps _ c c _ refl (tallies c k _ (tally_says r.replicas _))

  accepts_keep : (c : ClientState) (k : Content) (votes : List CountedVote) (d : Choice) (accepts : List ℕ) (x : Exec) (view j : ℕ) →
      Same c (counts_accept r c k votes d accepts x view j)
  unfolding counts_accept decide
  accepts_keep c k votes d accepts x view j = when_keeps _ c c _ refl (when_keeps _ c (prepared c k votes (Some d) (accepts ++ j ∷ [])) _ refl (concludes (prepared c k votes (Some d) (accepts ++ j ∷ [])) d _))

  sender_keeps : (c : ClientState) (f : ℕ → Turn) → ((j : ℕ) → Same c (f j)) → (o : Option ℕ) → Same c (from_replica c f o)
  sender_keeps c f g None = refl
  sender_keeps c f g (Some j) = g j

  told_keeps : (c : ClientState) (d : Choice) → Same c (told_running c d)
  told_keeps c ToCommit = refl
  told_keeps c Abandon = refl

  running_keeps : (c : ClientState) (pending : Bool) (from : NodeId) (b : Body) → Same c (comes_running r c pending from b)
  unfolding comes_running note_running give_up
  running_keeps c pending from (Note v k wid value sure lost) = when_keeps _ c c _ refl (notes c k _ lost _)
  running_keeps c pending from (TooOld v u) = when_keeps _ c c _ refl refl
  running_keeps c pending from (Decide x d k) = when_keeps _ c c _ refl (told_keeps c d)
  running_keeps c pending from _ = refl

  prepared_keeps : (c : ClientState) (k : Content) (votes : List CountedVote) (o : Option Choice) (accepts : List ℕ) (from : NodeId) (b : Body) →
      Same c (comes_prepared r c k votes o accepts from b)
  unfolding comes_prepared
  prepared_keeps c k votes o accepts from (Note v key wid value sure lost) = when_keeps _ c c _ refl (note_keeps c key _ lost)
  prepared_keeps c k votes o accepts from (Decide x d l) = when_keeps _ c c _ refl (concludes c d [])
  prepared_keeps c k votes None accepts from (Voted x v) = sender_keeps c _ (λ j. votes_keep c k votes x j v) (sender r.replicas from)
  prepared_keeps c k votes (Some d) accepts from (Accepted x view) = sender_keeps c _ (λ j. accepts_keep c k votes d accepts x view j) (sender r.replicas from)
  prepared_keeps c k votes o accepts from _ = refl

  pub comes_begun : (c : ClientState) (h : Phase) (from : NodeId) (b : Body) → Same c (comes r c h from b)
  unfolding comes
  comes_begun c Between from b = refl
  comes_begun c (Running pending given) from b = running_keeps c pending from b
  comes_begun c (Prepared k votes o accepts) from b = prepared_keeps c k votes o accepts from b

  pub ran_begun : (c : ClientState) (given : Bool) → Same c (ran r c given)
  unfolding ran
  ran_begun c given = settle _ _

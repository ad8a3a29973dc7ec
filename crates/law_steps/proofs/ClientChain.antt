-- Each step of a client is a chain of small acts.
use Rattle.std.proofs.Common.{◌≡◌, ℕ, ◌<◌, ◌≤◌, ◌+◌, ◌⊎◌, inl, inr, refl, ap, sym, subst, true, false, Bool, List, [], ◌∷◌, ◌++◌, Option, Some, None, length, arith}
use Rattle.std.specs.Prelude.{cond, suc, nat_le, nat_lt, ◌&&◌, ◌||◌, ◌==◌, not, take}
use Rattle.std.specs.List.{list_any, list_all}
use Rattle.std.specs.Ordering.{int_eq}
use Rattle.std.proofs.lemmas.List.{append-nil, length-append}
use Rattle.std.specs.Bool.{then_some}
use Rattle.std.proofs.lemmas.Bool.Decides.{Decides-int_eq}
use Rattle.std.proofs.lemmas.Bool.{not-true}
use Rattle.protocol.specs.Words.{Exec, Key, Wid, Ending, NodeId, Client, Replica, Warden, Body, Content, Choice, Abandon, ToCommit, Vote, Note, Puts, Prepare, Accepted, Decide, TooOld, Voted, same_exec, same_version}
use Rattle.protocol.specs.Lists.{IsIn, one_when}
use Rattle.protocol.specs.Replica.Votes.{is_commit_vote}
use Rattle.protocol.specs.declared.Held.{Held}
use Rattle.protocol.specs.declared.Fate.{Fate}
use Rattle.protocol.specs.declared.TallyOut.{TallyOut}
use Rattle.protocol.specs.declared.TallyOut.TheVariants.{Wait, FastCommit, FastAbandon, Propose}
use Rattle.protocol.specs.Client.State.{turn_when, Rules, ClientState, Phase, Turn, CountedVote, Decision, Answer, idle, walk, content, may_put, values}
use Rattle.protocol.specs.Client.Step.{from_replica, Input, client_step, comes_running, comes_prepared, comes, told_running, on_ran, on_hurry, is_warden}
use Rattle.protocol.specs.Client.Following.{Effect, prepare_if_idle, with_answer, rewind, follow_running, follow_prepared, note_running, note_prepared, place_of, answer_at, effect, note_at, note_on, next_label}
use Rattle.protocol.specs.Quorums.{quorum}
use Rattle.protocol.specs.Client.Counting.{tally_says, on_tally, count_votes, prepared, propose, counts_vote, counts_accept, sender}
use Rattle.protocol.specs.Client.Deciding.{noted, ended, rewound, relabelled, next_execution, next_exec, conclude, decide, give_up, other_value, is_change, cut}
use Rattle.protocol.specs.Client.Attempts.{prepare_if_ready, prepare_when, ran, go, begin, can_go, tries_again, has_pending, question, wrote}
use Rattle.protocol.specs.Client.State.Phase.{Between, Running, Prepared}
use Rattle.protocol.specs.declared.Fate.TheVariants.{Live, Committed, Aborted}
use Rattle.protocol.specs.Client.Following.Effect.{Nothing, Sure, Follow}
use Rattle.protocol.specs.Client.Step.Input.{Goes, Runs, Hurries, Comes}
use Rattle.protocol.proofs.TestLemmas.{and_left, and_right, eqb_is, le_is, lt_is}
use Rattle.protocol.proofs.NamesLemmas.{exec_is}
use Rattle.law_steps.proofs.WriteStepLemmas.{stops, stops_silent, begins, goes_on, values_append, relabels, puts_writes, puts_alone, other_question, prepares_writes}
use Rattle.law_steps.proofs.PhaseLemmas.{same_stage, running_stage, unprepared, quiet_puts, warden_is, quiet_question, quiet_append, between_is, aborted_is, running_under_way, prepared_under_way}
use Rattle.law_steps.proofs.ClientActs.ClientAct.{Quiet, Advances, Prepares, Counts, Proposes, Accepts, Decides, Gives_up, Learns}
use Rattle.law_steps.proofs.ClientActs.Reason.{All_commit, One_final, By_quorum}
use Rattle.law_steps.proofs.ClientActs.TryStep.{Keeps, Next_exec, Next_try}
use Rattle.law_steps.proofs.ClientActs.Chain.{Start, Then}
use Rattle.law_steps.proofs.ClientActs.{IsRunning, IsUnderWay, Reason, ClientAct, IsAborted, TryStep, WriteStep, Chain, Tells, tally_tells}

module _ (r : Rules) (Got : NodeId → Body → Type 0) where
  abbrev Reaches : ClientState → Turn → Type 0
  Reaches c t = Chain r Got c t.state t.sent

  -- one act that sends nothing, or all
  one : (c c' : ClientState) (sent : List Body) → ClientAct r Got c c' sent → TryStep c c' → WriteStep r c c' sent → Chain r Got c c' sent
  one c c' sent a t u = Then c c' [] sent Start a t u

  silent : (c c1 c2 : ClientState) (sent : List Body) → Chain r Got c c1 sent → ClientAct r Got c1 c2 [] → TryStep c1 c2 → WriteStep r c1 c2 [] →
      Chain r Got c c2 sent
  silent c c1 c2 sent s a t u = subst (λ bs. Chain r Got c c2 bs) (append-nil sent) (Then c1 c2 sent [] s a t u)

  quiet_id : (c : ClientState) → Chain r Got c c []
  quiet_id c = Start

  settle_chain : (c0 c : ClientState) (sent : List Body) → IsRunning c.phase → Chain r Got c0 c sent →
      Chain r Got c0 (prepare_if_ready r c sent).state (prepare_if_ready r c sent).sent
  unfolding prepare_if_ready
  settle_chain c0 c sent run s = go (walk r c).ending refl (list_all (λ a. a.label.sure) c.answers)
    where
      go : (e : Option Ending) → (walk r c).ending ≡ e → (t : Bool) → Chain r Got c0 (prepare_when r c sent e t).state (prepare_when r c sent e t).sent
      go (Some e) q true = Then c _ sent (Prepare c.exec (content r c e) ∷ []) s (Prepares (record { content = content r c e; running = run; exec = refl; decisions = refl; phase = refl; sends = refl })) (Keeps refl refl refl (λ e i. i) (λ b f. cc) (λ u. inl (running_under_way c.phase run))) (prepares_writes r c _ e q run (λ z. z))
      go (Some e) q false = s
      go None q t = s

  next_chain : (c0 c : ClientState) (sent : List Body) → (d : Decision) × IsIn d c.decisions × (d.exec ≡ c.exec) →
      IsIn (record { exec = c.exec; choice = Abandon }) c.decisions → Chain r Got c0 (ended c Live) sent →
      Chain r Got c0 (next_execution r c sent).state (next_execution r c sent).sent
  unfolding next_execution rewound relabelled
  next_chain c0 c sent b g s = go (list_any other_value c.answers)
    where
      puts : List Body
      puts = one_when (may_put (walk r (relabelled c)).ending) (Puts (next_exec c.exec) (walk r (relabelled c)).writes)

      go : (t : Bool) →
          Chain r Got c0 (cond t (record { state = rewound c (cut c.answers); sent = sent }) (prepare_if_ready r (relabelled c) (sent ++ one_when (may_put (walk r (relabelled c)).ending) (Puts (next_exec c.exec) (walk r (relabelled c)).writes)))).state (cond t (record { state = rewound c (cut c.answers); sent = sent }) (prepare_if_ready r (relabelled c) (sent ++ one_when (may_put (walk r (relabelled c)).ending) (Puts (next_exec c.exec) (walk r (relabelled c)).writes)))).sent
      go true = silent c0 (ended c Live) _ sent s (Advances (record { from = tt; running = tt; later = (inr (refl, omega arith)); own = (inr (refl, inr b)); decisions = refl; silent = refl })) (Next_exec refl refl refl (λ e i. i) (inr (tt, g)) tt) (begins r _ _ (inr (refl, omega arith)))
      go false = settle_chain c0 (relabelled c) _ tt
          (Then (relabelled c) (relabelled c) sent _ (silent c0 (ended c Live) (relabelled c) sent s (Advances (record { from = tt; running = tt; later = (inr (refl, omega arith)); own = (inr (refl, inr b)); decisions = refl; silent = refl })) (Next_exec refl refl refl (λ e i. i) (inr (tt, g)) tt) (begins r _ _ (inr (refl, omega arith))))
          (Quiet (record { exec = refl; decisions = refl; stage = tt; quiet = quiet_puts (may_put (walk r (relabelled c)).ending) _ tt })) (Keeps refl refl refl (λ e i. i) (λ b f. cc) (λ u. u))
          (puts_alone r (relabelled c) (may_put (walk r (relabelled c)).ending) tt))

  conclude_chain : (c0 c : ClientState) (d : Choice) (sent : List Body) → Chain r Got c0 (ended (noted c d) Live) sent →
      Chain r Got c0 (conclude r c d sent).state (conclude r c d sent).sent
  unfolding conclude
  conclude_chain c0 c ToCommit sent s = silent c0 _ _ sent s (Quiet (record { exec = refl; decisions = refl; stage = refl; quiet = tt })) (Keeps refl refl refl (λ e i. i) (λ b f. absurd f) (λ u. elim u [ inl z ↦ absurd z | inr z ↦ absurd z ])) (stops_silent r _ _ (λ z. z))
  conclude_chain c0 c Abandon sent s = go (list_any is_change c.answers && nat_lt (c.exec.eid + 1) r.execs)
    where
      go : (t : Bool) → Reaches c0 (cond t (next_execution r (noted c Abandon) sent) (record { state = ended (noted c Abandon) Aborted; sent = sent }))
      go true = next_chain c0 (noted c Abandon) sent (record { exec = c.exec; choice = Abandon }, inl refl, refl) (inl refl) s
      go false = silent c0 _ _ sent s (Quiet (record { exec = refl; decisions = refl; stage = refl; quiet = tt })) (Keeps refl refl refl (λ e i. i) (λ b f. inr (inl refl)) (λ u. elim u [ inl z ↦ absurd z | inr z ↦ absurd z ])) (stops_silent r _ _ (λ z. z))

  decide_chain : (c0 c : ClientState) (k : Content) (votes : List CountedVote) (o : Option Choice) (accepts : List ℕ) (d : Choice) →
      c.phase ≡ Prepared k votes o accepts → Reason r.replicas votes o accepts d → Chain r Got c0 c [] →
      Chain r Got c0 (decide r c k d).state (decide r c k d).sent
  unfolding decide
  decide_chain c0 c k votes o accepts d e why s = conclude_chain c0 c d _ (Then c _ [] _ s (Decides (record { content = k; votes = votes; proposal = o; accepts = accepts; choice = d; before = e; reason = why; exec = refl; decisions = refl; phase = refl; sends = refl })) (Keeps refl refl refl (λ e i. inr i) (λ b f. absurd f) (λ u. inl (rw e tt))) (stops r _ _ _ tt (λ z. z)))

  give_up_chain : (c : ClientState) → IsRunning c.phase → Chain r Got c (give_up c).state (give_up c).sent
  unfolding give_up
  give_up_chain c run = one c _ _ (Gives_up (record { running = run; exec = refl; decisions = refl; phase = refl; sends = refl })) (Keeps refl refl refl (λ e i. inr i) (λ b f. inr (inl refl)) (λ u. elim u [ inl z ↦ absurd z | inr z ↦ absurd z ])) (stops r _ _ _ tt (λ z. z))

  settle_if_idle_chain : (c0 c : ClientState) → IsRunning c.phase → Chain r Got c0 c [] → Chain r Got c0 (prepare_if_idle r c).state (prepare_if_idle r c).sent
  unfolding prepare_if_idle
  settle_if_idle_chain c0 c run s = go (has_pending c.phase)
    where
      go : (t : Bool) → Reaches c0 (cond t (idle c) (prepare_if_ready r c []))
      go true = s
      go false = settle_chain c0 c [] run s

  with_answer_chain : (c : ClientState) (i : ℕ) (a : Answer) → (answer_at c i).label.value ≡ a.label.value → Chain r Got c (with_answer c i a) []
  with_answer_chain c i a e = one c _ [] (Quiet (record { exec = refl; decisions = refl; stage = same_stage c.phase; quiet = tt })) (Keeps refl refl refl (λ e i. i) (λ b f. inl (b, f)) (λ u. u)) (relabels r c i a e)

  rewind_chain : (c : ClientState) (i : ℕ) (new : Held) → IsRunning c.phase → Chain r Got c (rewind r c i new).state (rewind r c i new).sent
  unfolding rewind rewound
  rewind_chain c i new run = go (nat_lt (c.exec.eid + 1) r.execs)
    where
      go : (t : Bool) → Reaches c (cond t (idle (rewound c (take i c.answers ++ record { label = new; next = None } ∷ []))) (give_up c))
      go true = one c _ [] (Advances (record { from = unprepared c.phase run; running = tt; later = (inr (refl, omega arith)); own = (inr (refl, inl (running_under_way c.phase run))); decisions = refl; silent = refl })) (Next_exec refl refl refl (λ e i. i) (inl run) tt) (begins r _ _ (inr (refl, omega arith)))
      go false = give_up_chain c run

  follow_running_chain : (c : ClientState) (i : ℕ) (new : Held) (f : Effect) → IsRunning c.phase →
      Chain r Got c (follow_running r c i (answer_at c i) new f).state (follow_running r c i (answer_at c i) new f).sent
  unfolding follow_running
  follow_running_chain c i new Nothing run = Start
  follow_running_chain c i new Sure run = settle_if_idle_chain c _ run (with_answer_chain c i _ refl)
  follow_running_chain c i new Follow run = go (int_eq (answer_at c i).label.value new.value) refl
    where
      go : (t : Bool) → int_eq (answer_at c i).label.value new.value ≡ t →
          Reaches c (cond t (prepare_if_idle r (with_answer c i (record { label = new; next = None }))) (rewind r c i new))
      go true q = settle_if_idle_chain c _ run (with_answer_chain c i _ ((Decides-int_eq (answer_at c i).label.value new.value).0 q))
      go false q = rewind_chain c i new run

  note_at_chain : (c : ClientState) (new : Held) (lost : Option Wid) (o : Option ℕ) → IsRunning c.phase → Reaches c (note_at r c new lost o)
  unfolding note_at
  note_at_chain c new lost None run = Start
  note_at_chain c new lost (Some i) run = follow_running_chain c i new _ run

  note_on_chain : (c : ClientState) (k : Key) (new : Held) (lost : Option Wid) (asked : Bool) → IsRunning c.phase → Reaches c (note_on r c k new lost asked)
  unfolding note_on
  note_on_chain c k new lost true run = one c _ [] (Quiet (record { exec = refl; decisions = refl; stage = running_stage c.phase _ run tt; quiet = tt })) (Keeps refl refl refl (λ e i. i) (λ b f. cc) (λ u. inl (running_under_way c.phase run)))
      (goes_on r c _ (λ z. record { exec = refl; running = run; begun = refl; more = new.value ∷ []; answers = values_append c.answers (record { label = new; next = None }) }))
  note_on_chain c k new lost false run = note_at_chain c new lost (place_of k 0 (walk r c).keys) run

  note_running_chain : (c : ClientState) (pending : Bool) (k : Key) (new : Held) (lost : Option Wid) → IsRunning c.phase →
      Reaches c (note_running r c pending k new lost)
  unfolding note_running
  note_running_chain c pending k new lost run = note_on_chain c k new lost _ run

  -- votes
  Before : ClientState → Content → List CountedVote → ClientState
  Before c k votes = prepared c k votes None []

  propose_chain : (c0 c : ClientState) (k : Content) (votes : List CountedVote) (d : Choice) (accepts : List ℕ) → c.phase ≡ Prepared k votes None accepts →
      (d ≡ ToCommit → quorum r.replicas ≤ count_votes is_commit_vote votes) → Chain r Got c0 c [] → Reaches c0 (propose c k votes d)
  unfolding propose
  propose_chain c0 c k votes d accepts e f s = Then c _ [] _ s (Proposes (record { content = k; votes = votes; accepts = accepts; choice = d; before = e; ground = f; exec = refl; decisions = refl; phase = refl; sends = refl })) (Keeps refl refl refl (λ e i. i) (λ b f. cc) (λ u. inl (rw e tt))) (stops r _ _ _ tt (λ z. z))

  -- what is proposed from the state in which the votes were counted is what is proposed from the one before
  propose_again : (c0 c : ClientState) (k : Content) (votes : List CountedVote) (d : Choice) →
      (d ≡ ToCommit → quorum r.replicas ≤ count_votes is_commit_vote votes) → Chain r Got c0 (prepared c k votes None []) [] →
      Reaches c0 (propose c k votes d)
  unfolding propose
  propose_again c0 c k votes d f s = Then (prepared c k votes None []) _ [] _ s (Proposes (record { content = k; votes = votes; accepts = []; choice = d; before = refl; ground = f; exec = refl; decisions = refl; phase = refl; sends = refl })) (Keeps refl refl refl (λ e i. i) (λ b f. cc) (λ u. inl tt)) (stops r _ _ _ tt (λ z. z))

  tally_chain : (c0 c : ClientState) (k : Content) (votes : List CountedVote) (o : TallyOut) → Tells r.replicas votes o →
      Chain r Got c0 (prepared c k votes None []) [] → Reaches c0 (on_tally r c k votes o)
  unfolding on_tally
  tally_chain c0 c k votes FastCommit t s = decide_chain c0 (prepared c k votes None []) k votes None [] ToCommit refl (All_commit refl refl t) s
  tally_chain c0 c k votes FastAbandon t s = decide_chain c0 (prepared c k votes None []) k votes None [] Abandon refl (One_final refl refl t) s
  tally_chain c0 c k votes (Propose ToCommit) t s = propose_again c0 c k votes ToCommit (λ e. t) s
  tally_chain c0 c k votes (Propose Abandon) t s = propose_again c0 c k votes Abandon (λ e. cc) s
  tally_chain c0 c k votes Wait t s = s

  -- what counts
  counts_vote_chain : (c : ClientState) (k : Content) (votes : List CountedVote) (accepts : List ℕ) (x : Exec) (j : ℕ) (v : Vote) →
      c.phase ≡ Prepared k votes None accepts → Got (Replica j) (Voted x v) → (0 < j) × (j ≤ r.replicas) → Reaches c (counts_vote r c k votes x j v)
  unfolding counts_vote
  counts_vote_chain c k votes accepts x j v e got range = go (same_exec x c.exec && not (list_any (λ b. b.replica == j) votes)) refl
    where
      go : (t : Bool) → (same_exec x c.exec && not (list_any (λ b. b.replica == j) votes)) ≡ t →
          Reaches c (turn_when t c (on_tally r c k (votes ++ record { replica = j; vote = v } ∷ []) (tally_says r.replicas (votes ++ record { replica = j; vote = v } ∷ []))))
      go true q = tally_chain c c k _ _ (tally_tells r.replicas _) (one c _ [] (Counts (record { content = k; votes = votes; accepts = accepts; replica = j; vote = v; before = e; got = subst (λ y. Got (Replica j) (Voted y v)) (exec_is _ _ (and_left _ _ q)) got; range = range; fresh = not-true _ (and_right _ _ q); exec = refl; decisions = refl; phase = refl; silent = refl })) (Keeps refl refl refl (λ e i. i) (λ b f. cc) (λ u. inl (rw e tt))) (stops_silent r _ _ (λ z. z)))
      go false q = Start

  counts_accept_chain : (c : ClientState) (k : Content) (votes : List CountedVote) (d : Choice) (accepts : List ℕ) (x : Exec) (view j : ℕ) →
      c.phase ≡ Prepared k votes (Some d) accepts → Got (Replica j) (Accepted x view) → (0 < j) × (j ≤ r.replicas) →
      Reaches c (counts_accept r c k votes d accepts x view j)
  unfolding counts_accept
  counts_accept_chain c k votes d accepts x view j e got range = go (same_exec x c.exec && ((view == 0) && not (list_any (λ i. i == j) accepts))) refl
    where
      go2 : (t : Bool) → nat_le (quorum r.replicas) (suc (length accepts)) ≡ t → Chain r Got c (prepared c k votes (Some d) (accepts ++ j ∷ [])) [] →
          Reaches c (turn_when t (prepared c k votes (Some d) (accepts ++ j ∷ [])) (decide r (prepared c k votes (Some d) (accepts ++ j ∷ [])) k d))
      go2 true q s =
          decide_chain c _ k votes (Some d) (accepts ++ j ∷ []) d refl (By_quorum refl (let l = le_is _ _ q in rw length-append (omega (arith, l)))) s
      go2 false q s = s

      go : (t : Bool) → (same_exec x c.exec && ((view == 0) && not (list_any (λ i. i == j) accepts))) ≡ t →
          Reaches c (turn_when t c (turn_when (nat_le (quorum r.replicas) (suc (length accepts))) (prepared c k votes (Some d) (accepts ++ j ∷ [])) (decide r (prepared c k votes (Some d) (accepts ++ j ∷ [])) k d)))
      go true q = go2 (nat_le (quorum r.replicas) (suc (length accepts))) refl (one c _ [] (Accepts (record { content = k; votes = votes; choice = d; accepts = accepts; replica = j; before = e; got = subst (λ y. Got (Replica j) (Accepted c.exec y)) (eqb_is view 0 (and_left _ _ (and_right _ _ q))) (subst (λ y. Got (Replica j) (Accepted y view)) (exec_is _ _ (and_left _ _ q)) got); range = range; fresh = not-true _ (and_right _ _ (and_right _ _ q)); exec = refl; decisions = refl; phase = refl; silent = refl })) (Keeps refl refl refl (λ e i. i) (λ b f. cc) (λ u. inl (rw e tt))) (stops_silent r _ _ (λ z. z)))
      go false q = Start

  -- envelopes
  learns : (c : ClientState) (f : Fate) → (d : Choice) → (IsAborted f → d ≡ Abandon) → (from : NodeId) (x : Exec) (k : Option Content) → IsUnderWay c.phase →
      Got from (Decide x d k) → (is_warden from && same_exec x c.exec) ≡ true → Chain r Got c (ended (noted c d) f) []
  learns c f d g from x k u got q = let w = warden_is from (and_left _ _ q) in
      one c _ [] (Learns (record { warden = w.0; choice = d; content = k; under_way = u; got = subst (λ y. Got (Warden w.0) (Decide y d k)) (exec_is _ _ (and_right _ _ q)) (subst (λ y. Got y (Decide x d k)) w.1 got); exec = refl; decisions = refl; phase = refl; silent = refl })) (Keeps refl refl refl (λ e i. inr i) (λ b a. inr (inl (ap (λ (z : Choice). record { exec = c.exec; choice = z }) (sym (g a))))) (λ v. inl u)) (stops_silent r _ _ (λ z. z))

  told_running_chain : (c : ClientState) (from : NodeId) (x : Exec) (d : Choice) (k : Option Content) → IsUnderWay c.phase → Got from (Decide x d k) →
      (is_warden from && same_exec x c.exec) ≡ true → Reaches c (told_running c d)
  told_running_chain c from x ToCommit k u got q = learns c Committed ToCommit (λ a. absurd a) from x k u got q
  told_running_chain c from x Abandon k u got q = learns c Aborted Abandon (λ a. refl) from x k u got q

  comes_running_chain : (c : ClientState) (pending : Bool) (from : NodeId) (b : Body) → IsRunning c.phase → Got from b →
      Reaches c (comes_running r c pending from b)
  unfolding comes_running
  comes_running_chain c pending from (Note v k wid value sure lost) run got = go (same_version v c.exec.ver)
    where
      go : (t : Bool) → Reaches c (turn_when t c (note_running r c pending k (record { wid = wid; value = value; sure = sure }) lost))
      go true = note_running_chain c pending k _ lost run
      go false = Start
  comes_running_chain c pending from (TooOld v w) run got = go (same_version v c.exec.ver)
    where
      go : (t : Bool) → Reaches c (turn_when t c (give_up c))
      go true = give_up_chain c run
      go false = Start
  comes_running_chain c pending from (Decide x d k) run got = go (is_warden from && same_exec x c.exec) refl
    where
      go : (t : Bool) → (is_warden from && same_exec x c.exec) ≡ t → Reaches c (turn_when t c (told_running c d))
      go true q = told_running_chain c from x d k (running_under_way c.phase run) got q
      go false q = Start
  comes_running_chain c pending from _ run got = Start

  follow_prepared_same : (c : ClientState) (i : ℕ) (new : Held) (f : Effect) → Chain r Got c (follow_prepared c i (answer_at c i) new f) []
  follow_prepared_same c i new Nothing = Start
  follow_prepared_same c i new Sure = with_answer_chain c i _ refl
  follow_prepared_same c i new Follow = with_answer_chain c i _ refl

  note_prepared_chain : (c : ClientState) (k : Key) (new : Held) (lost : Option Wid) → Chain r Got c (note_prepared r c k new lost) []
  unfolding note_prepared
  note_prepared_chain c k new lost = go (place_of k 0 (walk r c).keys)
    where
      go : (o : Option ℕ) →
          Chain r Got c (elim o [ None ↦ c | Some i ↦ follow_prepared c i (answer_at c i) new (effect (next_label (answer_at c i)) new lost) ]) []
      go None = Start
      go (Some i) = follow_prepared_same c i new (effect (next_label (answer_at c i)) new lost)

  from_replica_chain : (c : ClientState) (f : ℕ → Turn) (n : ℕ) (from : NodeId) → ((j : ℕ) → from ≡ Replica j → (0 < j) × (j ≤ n) → Reaches c (f j)) →
      Reaches c (from_replica c f (sender n from))
  from_replica_chain c f n (Client j) h = Start
  from_replica_chain c f n (Warden j) h = Start
  from_replica_chain c f n (Replica j) h = go (nat_lt 0 j && nat_le j n) refl
    where
      go : (t : Bool) → (nat_lt 0 j && nat_le j n) ≡ t → Reaches c (from_replica c f (then_some t j))
      go true q = h j refl (lt_is _ _ (and_left _ _ q), le_is _ _ (and_right _ _ q))
      go false q = Start

  comes_prepared_chain : (c : ClientState) (k : Content) (votes : List CountedVote) (o : Option Choice) (accepts : List ℕ) (from : NodeId) (b : Body) →
      c.phase ≡ Prepared k votes o accepts → Got from b → Reaches c (comes_prepared r c k votes o accepts from b)
  unfolding comes_prepared
  comes_prepared_chain c k votes o accepts from (Note v key wid value sure lost) e got = go (same_version v c.exec.ver)
    where
      go : (t : Bool) → Reaches c (turn_when t c (idle (note_prepared r c key (record { wid = wid; value = value; sure = sure }) lost)))
      go true = note_prepared_chain c key _ lost
      go false = Start
  comes_prepared_chain c k votes o accepts from (Decide x d content) e got = go (is_warden from && same_exec x c.exec) refl
    where
      go : (t : Bool) → (is_warden from && same_exec x c.exec) ≡ t → Reaches c (turn_when t c (conclude r c d []))
      go true q = conclude_chain c c d [] (learns c Live d (λ a. absurd a) from x content (prepared_under_way _ _ _ _ _ e) got q)
      go false q = Start
  comes_prepared_chain c k votes None accepts from (Voted x v) e got =
      from_replica_chain c _ r.replicas from (λ j f range. counts_vote_chain c k votes accepts x j v e (subst (λ y. Got y (Voted x v)) f got) range)
  comes_prepared_chain c k votes (Some d) accepts from (Accepted x view) e got = from_replica_chain c _ r.replicas from (λ j f range. counts_accept_chain c k votes d accepts x view j e (subst (λ y. Got y (Accepted x view)) f got) range)
  comes_prepared_chain c k votes o accepts from _ e got = Start

  pub comes_chain : (c : ClientState) (p : Phase) (from : NodeId) (b : Body) → c.phase ≡ p → Got from b → Reaches c (comes r c p from b)
  unfolding comes
  comes_chain c Between from b e got = Start
  comes_chain c (Running pending given) from b e got = comes_running_chain c pending from b (rw e tt) got
  comes_chain c (Prepared k votes o accepts) from b e got = comes_prepared_chain c k votes o accepts from b e got

  ran_chain : (c : ClientState) (given : Bool) → IsRunning c.phase → Reaches c (ran r c given)
  unfolding ran
  ran_chain c given run = settle_chain c _ _ tt (one c _ _ (Quiet (record { exec = refl; decisions = refl; stage = running_stage c.phase (Running false true) run tt; quiet = quiet_append _ _ (quiet_puts (may_put (walk r c).ending && (wrote r c || (not given && nat_lt 0 c.exec.eid))) (Puts c.exec (walk r c).writes) tt) (quiet_question c.exec (walk r c).asks) })) (Keeps refl refl refl (λ e i. i) (λ b f. cc) (λ u. inl (running_under_way c.phase run)))
      (puts_writes r c (may_put (walk r c).ending && (wrote r c || (not given && nat_lt 0 c.exec.eid))) (question c.exec (walk r c).asks) run (other_question c.exec (walk r c).asks) _
      (record { exec = refl; running = run; begun = refl; more = []; answers = sym (append-nil (values c.answers)) }) tt refl))

  on_ran_chain : (c : ClientState) (p : Phase) (t : Turn) → c.phase ≡ p → on_ran r c p ≡ Some t → Reaches c t
  unfolding on_ran
  on_ran_chain c (Running true given) t e q = let f : ran r c given ≡ t = cc in subst (λ u. Reaches c u) f (ran_chain c given (rw e tt))
  on_ran_chain c _ t e q = cc

  on_hurry_chain : (c : ClientState) (p : Phase) (t : Turn) → c.phase ≡ p → on_hurry r c p ≡ Some t → Reaches c t
  unfolding on_hurry
  on_hurry_chain c (Prepared k votes None accepts) t e q =
      subst (λ u. Reaches c u) (some_is q) (go (nat_le (quorum r.replicas) (count_votes is_commit_vote votes)) refl)
    where
      some_is : {A : Type 0} {a b : A} → Some a ≡ Some b → a ≡ b
      some_is e = cc

      go : (u : Bool) → nat_le (quorum r.replicas) (count_votes is_commit_vote votes) ≡ u → Reaches c (propose c k votes (cond u ToCommit Abandon))
      go true f = propose_chain c c k votes ToCommit accepts e (λ _. le_is _ _ f) Start
      go false f = propose_chain c c k votes Abandon accepts e (λ g. cc) Start
  on_hurry_chain c _ t e q = cc

  begin_chain : (c : ClientState) (begun try : ℕ) → c.phase ≡ Between → ((begun ≡ c.begun) × IsAborted c.fate) ⊎ (begun ≡ c.begun + 1) →
      Chain r Got c (begin r c begun try) []
  unfolding begin
  begin_chain c begun try e f = one c _ [] (Advances (record { from = rw e tt; running = tt; later = inl (omega arith); own = inl refl; decisions = refl; silent = refl })) (Next_try e (omega arith) refl (λ e i. i) f tt) (begins r _ _ (inl (omega arith)))

  go_chain : (c : ClientState) → c.phase ≡ Between → Reaches c (go r c)
  unfolding go
  go_chain c e = go' (tries_again r c) refl
    where
      go' : (t : Bool) → tries_again r c ≡ t → Chain r Got c (cond t (begin r c c.begun (c.try + 1)) (begin r c (c.begun + 1) 1)) []
      go' true q = begin_chain c c.begun (c.try + 1) e (inl (refl, aborted_is c.fate (and_left _ _ q)))
      go' false q = begin_chain c (c.begun + 1) 1 e (inr refl)

  abbrev pub CameTo : Input → Type 0
  CameTo (Comes from b) = Got from b
  CameTo _ = Unit {0}

  -- each step of a client is a chain of small acts
  pub client_chain : (c : ClientState) (i : Input) (t : Turn) → CameTo i → client_step r c i ≡ Some t → Chain r Got c t.state t.sent
  unfolding client_step
  client_chain c Goes t came q = begun (can_go r c) refl q
    where
      begun : (u : Bool) → can_go r c ≡ u → then_some u (go r c) ≡ Some t → Chain r Got c t.state t.sent
      begun true f q = let g : go r c ≡ t = cc in subst (λ u. Reaches c u) g (go_chain c (between_is c.phase (and_left _ _ f)))
      begun false f q = cc
  client_chain c Runs t came q = on_ran_chain c c.phase t refl q
  client_chain c Hurries t came q = on_hurry_chain c c.phase t refl q
  client_chain c (Comes from b) t came q = let g : comes r c c.phase from b ≡ t = cc in subst (λ u. Reaches c u) g (comes_chain c c.phase from b refl came)

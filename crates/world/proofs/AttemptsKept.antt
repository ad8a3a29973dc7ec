-- Only Go begins an attempt: all else that happens to a client leaves the list of its attempts, and how many transactions it
-- has begun.
use Rattle.std.proofs.Common.{◌≡◌, ◌≢◌, ℕ, Bool, true, false, List, [], ◌∷◌, ◌++◌, Option, Some, None, refl, sym, ap, subst}
use Rattle.std.specs.Prelude.{cond, ◌+◌, ◌==◌, ◌&&◌, not, nat_lt, nat_le, suc, length, take}
use Rattle.std.specs.List.{list_any, list_all}
use Rattle.std.specs.Ordering.{int_eq}
use Rattle.protocol.specs.Words.{NodeId, Choice, Abandon, ToCommit, Content, Body, Note, TooOld, Decide, Voted, Accepted, Ending, Exec, Vote, Key, Wid, same_version, same_exec}
use Rattle.protocol.specs.declared.Held.{Held}
use Rattle.protocol.specs.declared.TallyOut.{TallyOut}
use Rattle.protocol.specs.declared.TallyOut.TheVariants.{Wait, FastCommit, FastAbandon, Propose}
use Rattle.protocol.specs.Quorums.{quorum}
use Rattle.protocol.specs.Client.State.{Answer, ClientState, CountedVote, Phase, Rules, Turn, idle, turn_when, content, walk}
use Rattle.protocol.specs.Client.State.Phase.{Between, Running, Prepared}
use Rattle.protocol.specs.Client.Attempts.{has_pending, prepare_when, prepare_if_ready, question, ran}
use Rattle.protocol.specs.Client.Counting.{counts_accept, counts_vote, hurried, on_tally, prepared, propose, sender, tally_says}
use Rattle.protocol.specs.Client.Deciding.{conclude, cut, decide, ended, give_up, is_change, next_execution, noted, other_value, puts_again, relabelled, rewound}
use Rattle.protocol.specs.Client.Following.{Effect, answer_at, effect, follow_prepared, follow_running, next_label, note_at, note_on, note_prepared, note_running, place_of, prepare_if_idle, prepared_at, rewind}
use Rattle.protocol.specs.Client.Following.Effect.{Nothing, Sure, Follow}
use Rattle.protocol.specs.Client.Step.{Input, client_step, comes, comes_prepared, comes_running, from_replica, is_warden, on_hurry, on_ran, told_running}
use Rattle.protocol.specs.Client.Step.Input.{Goes, Runs, Hurries, Comes}

-- the later state has begun no attempt more
abbrev pub HasBegunNone : ClientState → ClientState → Type 0
HasBegunNone c c' = (c'.attempts ≡ c.attempts) × (c'.begun ≡ c.begun)

abbrev Keeps : ClientState → Turn → Type 0
Keeps c t = HasBegunNone c t.state

-- where a test decides between two turns
when_keeps : (b : Bool) (c : ClientState) (t : Turn) → Keeps c t → Keeps c (turn_when b c t)
when_keeps true c t k = k
when_keeps false c t k = (refl, refl)

cond_keeps : (b : Bool) (c : ClientState) (t u : Turn) → Keeps c t → Keeps c u → Keeps c (cond b t u)
cond_keeps true c t u k l = k
cond_keeps false c t u k l = l

prepare_when_keeps : (r : Rules) (c : ClientState) (sent : List Body) (e : Option Ending) (b : Bool) → Keeps c (prepare_when r c sent e b)
prepare_when_keeps r c sent (Some e) true = (refl, refl)
prepare_when_keeps r c sent (Some e) false = (refl, refl)
prepare_when_keeps r c sent None b = (refl, refl)

ready_keeps : (r : Rules) (c : ClientState) (sent : List Body) → Keeps c (prepare_if_ready r c sent)
unfolding prepare_if_ready
ready_keeps r c sent = prepare_when_keeps r c sent (walk r c).ending (list_all (λ a. a.label.sure) c.answers)

give_up_keeps : (c : ClientState) → Keeps c (give_up c)
unfolding give_up
give_up_keeps c = (refl, refl)

idle_keeps : (r : Rules) (c : ClientState) → Keeps c (prepare_if_idle r c)
unfolding prepare_if_idle
idle_keeps r c = cond_keeps (has_pending c.phase) c (idle c) (prepare_if_ready r c []) (refl, refl) (ready_keeps r c [])

rewind_keeps : (r : Rules) (c : ClientState) (i : ℕ) (new : Held) → Keeps c (rewind r c i new)
unfolding rewind rewound
rewind_keeps r c i new =
    cond_keeps (nat_lt (c.exec.eid + 1) r.execs) c (idle (rewound c (take i c.answers ++ record { label = new; next = None } ∷ []))) (give_up c) (refl, refl) (give_up_keeps c)

follow_keeps : (r : Rules) (c : ClientState) (i : ℕ) (a : Answer) (new : Held) (e : Effect) → Keeps c (follow_running r c i a new e)
unfolding follow_running
follow_keeps r c i a new Nothing = (refl, refl)
follow_keeps r c i a new Sure = idle_keeps r _
follow_keeps r c i a new Follow = cond_keeps (int_eq a.label.value new.value) c _ (rewind r c i new) (idle_keeps r _) (rewind_keeps r c i new)

note_at_keeps : (r : Rules) (c : ClientState) (new : Held) (lost : Option Wid) (o : Option ℕ) → Keeps c (note_at r c new lost o)
unfolding note_at
note_at_keeps r c new lost None = (refl, refl)
note_at_keeps r c new lost (Some i) = follow_keeps r c i (answer_at c i) new (effect (answer_at c i).label new lost)

note_on_keeps : (r : Rules) (c : ClientState) (k : Key) (new : Held) (lost : Option Wid) (asked : Bool) → Keeps c (note_on r c k new lost asked)
unfolding note_on
note_on_keeps r c k new lost true = (refl, refl)
note_on_keeps r c k new lost false = note_at_keeps r c new lost (place_of k 0 (walk r c).keys)

note_running_keeps : (r : Rules) (c : ClientState) (pending : Bool) (k : Key) (new : Held) (lost : Option Wid) → Keeps c (note_running r c pending k new lost)
unfolding note_running
note_running_keeps r c pending k new lost = note_on_keeps r c k new lost _

followed_keeps : (c : ClientState) (i : ℕ) (a : Answer) (new : Held) (e : Effect) → HasBegunNone c (follow_prepared c i a new e)
followed_keeps c i a new Nothing = (refl, refl)
followed_keeps c i a new Sure = (refl, refl)
followed_keeps c i a new Follow = (refl, refl)

prepared_at_keeps : (c : ClientState) (new : Held) (lost : Option Wid) (o : Option ℕ) → HasBegunNone c (prepared_at c new lost o)
prepared_at_keeps c new lost None = (refl, refl)
prepared_at_keeps c new lost (Some i) = followed_keeps c i (answer_at c i) new (effect (next_label (answer_at c i)) new lost)

note_prepared_keeps : (r : Rules) (c : ClientState) (k : Key) (new : Held) (lost : Option Wid) → HasBegunNone c (note_prepared r c k new lost)
unfolding note_prepared
note_prepared_keeps r c k new lost = prepared_at_keeps c new lost (place_of k 0 (walk r c).keys)

next_keeps : (r : Rules) (c : ClientState) (sent : List Body) → Keeps c (next_execution r c sent)
unfolding next_execution rewound relabelled
next_keeps r c sent =
    cond_keeps (list_any other_value c.answers) c (record { state = rewound c (cut c.answers); sent = sent })
    (prepare_if_ready r (relabelled c) (sent ++ puts_again r (relabelled c))) (refl, refl) (ready_keeps r (relabelled c) (sent ++ puts_again r (relabelled c)))

conclude_keeps : (r : Rules) (c : ClientState) (d : Choice) (sent : List Body) → Keeps c (conclude r c d sent)
unfolding conclude
conclude_keeps r c ToCommit sent = (refl, refl)
conclude_keeps r c Abandon sent =
    cond_keeps (list_any is_change c.answers && nat_lt (c.exec.eid + 1) r.execs) c (next_execution r (noted c Abandon) sent) _
    (next_keeps r (noted c Abandon) sent) (refl, refl)

decide_keeps : (r : Rules) (c : ClientState) (k : Content) (d : Choice) → Keeps c (decide r c k d)
unfolding decide
decide_keeps r c k d = conclude_keeps r c d _

propose_keeps : (c : ClientState) (k : Content) (votes : List CountedVote) (d : Choice) → Keeps c (propose c k votes d)
unfolding propose
propose_keeps c k votes d = (refl, refl)

tally_keeps : (r : Rules) (c : ClientState) (k : Content) (votes : List CountedVote) (t : TallyOut) → Keeps c (on_tally r c k votes t)
unfolding on_tally
tally_keeps r c k votes FastCommit = decide_keeps r (prepared c k votes None []) k ToCommit
tally_keeps r c k votes FastAbandon = decide_keeps r (prepared c k votes None []) k Abandon
tally_keeps r c k votes (Propose d) = propose_keeps c k votes d
tally_keeps r c k votes Wait = (refl, refl)

vote_keeps : (r : Rules) (c : ClientState) (k : Content) (votes : List CountedVote) (x : Exec) (j : ℕ) (v : Vote) → Keeps c (counts_vote r c k votes x j v)
unfolding counts_vote
vote_keeps r c k votes x j v = when_keeps _ c _ (tally_keeps r c k _ _)

accept_keeps : (r : Rules) (c : ClientState) (k : Content) (votes : List CountedVote) (d : Choice) (accepts : List ℕ) (x : Exec) (view j : ℕ) →
    Keeps c (counts_accept r c k votes d accepts x view j)
unfolding counts_accept
accept_keeps r c k votes d accepts x view j =
    let now = prepared c k votes (Some d) (accepts ++ j ∷ []) in
    when_keeps _ c _ (when_keeps (nat_le (quorum r.replicas) (suc (length accepts))) now (decide r now k d) (decide_keeps r now k d))

from_keeps : (c : ClientState) (f : ℕ → Turn) (o : Option ℕ) → ((k : ℕ) → Keeps c (f k)) → Keeps c (from_replica c f o)
from_keeps c f None h = (refl, refl)
from_keeps c f (Some k) h = h k

told_keeps : (c : ClientState) (d : Choice) → Keeps c (told_running c d)
told_keeps c ToCommit = (refl, refl)
told_keeps c Abandon = (refl, refl)

running_keeps : (r : Rules) (c : ClientState) (pending : Bool) (from : NodeId) (b : Body) → Keeps c (comes_running r c pending from b)
unfolding comes_running
running_keeps r c pending from (Note v k wid value sure lost) = when_keeps (same_version v c.exec.ver) c _ (note_running_keeps r c pending k _ lost)
running_keeps r c pending from (TooOld v w) = when_keeps (same_version v c.exec.ver) c (give_up c) (give_up_keeps c)
running_keeps r c pending from (Decide x d k) = when_keeps (is_warden from && same_exec x c.exec) c (told_running c d) (told_keeps c d)
running_keeps r c pending from _ = (refl, refl)

prepared_keeps : (r : Rules) (c : ClientState) (k : Content) (votes : List CountedVote) (o : Option Choice) (accepts : List ℕ) (from : NodeId) (b : Body) →
    Keeps c (comes_prepared r c k votes o accepts from b)
unfolding comes_prepared
prepared_keeps r c k votes o accepts from (Note v key wid value sure lost) = when_keeps (same_version v c.exec.ver) c _ (note_prepared_keeps r c key _ lost)
prepared_keeps r c k votes o accepts from (Decide x d content) = when_keeps (is_warden from && same_exec x c.exec) c _ (conclude_keeps r c d [])
prepared_keeps r c k votes None accepts from (Voted x v) =
    from_keeps c (λ j. counts_vote r c k votes x j v) (sender r.replicas from) (λ j. vote_keeps r c k votes x j v)
prepared_keeps r c k votes (Some d) accepts from (Accepted x view) =
    from_keeps c (λ j. counts_accept r c k votes d accepts x view j) (sender r.replicas from) (λ j. accept_keeps r c k votes d accepts x view j)
prepared_keeps r c k votes o accepts from _ = (refl, refl)

comes_keeps : (r : Rules) (c : ClientState) (p : Phase) (from : NodeId) (b : Body) → Keeps c (comes r c p from b)
unfolding comes
comes_keeps r c Between from b = (refl, refl)
comes_keeps r c (Running pending given) from b = running_keeps r c pending from b
comes_keeps r c (Prepared k votes o accepts) from b = prepared_keeps r c k votes o accepts from b

some_is : {A : Type 0} {a b : A} → Some a ≡ Some b → a ≡ b
some_is e = cc

ran_keeps : (r : Rules) (c : ClientState) (given : Bool) → Keeps c (ran r c given)
unfolding ran
ran_keeps r c given = ready_keeps r (record c { phase = Running false true }) _

on_ran_keeps : (r : Rules) (c : ClientState) (p : Phase) (t : Turn) → on_ran r c p ≡ Some t → Keeps c t
unfolding on_ran
on_ran_keeps r c (Running true given) t e = subst (λ u. Keeps c u) (some_is e) (ran_keeps r c given)
on_ran_keeps r c _ t e = cc

on_hurry_keeps : (r : Rules) (c : ClientState) (p : Phase) (t : Turn) → on_hurry r c p ≡ Some t → Keeps c t
unfolding on_hurry
on_hurry_keeps r c (Prepared k votes None accepts) t e = subst (λ u. Keeps c u) (some_is e) (propose_keeps c k votes (hurried r.replicas votes))
on_hurry_keeps r c _ t e = cc

-- a turn that is not that of Go begins none
pub attempts_kept : (r : Rules) (c : ClientState) (i : Input) (t : Turn) → i ≢ Goes → client_step r c i ≡ Some t → HasBegunNone c t.state
unfolding client_step
attempts_kept r c Goes t other e = absurd (other refl)
attempts_kept r c Runs t other e = on_ran_keeps r c c.phase t e
attempts_kept r c Hurries t other e = on_hurry_keeps r c c.phase t e
attempts_kept r c (Comes from b) t other e = subst (λ u. Keeps c u) (some_is e) (comes_keeps r c c.phase from b)

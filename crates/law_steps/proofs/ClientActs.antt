-- The small acts of a client, and what each does to its try, its execution and its writes.
use Rattle.std.proofs.Common.{Some, ℤ, ◌++◌, ◌≡◌, ℕ, ◌<◌, ◌≤◌, ◌+◌, ◌⊎◌, refl, true, false, Bool, List, [], ◌∷◌, Option, None, length}
use Rattle.std.specs.Prelude.{cond, nat_le, nat_lt, ◌&&◌, ◌==◌}
use Rattle.std.specs.List.{list_any}
use Rattle.protocol.specs.Words.{Ending, Exec, Write, NodeId, Replica, Warden, Body, Content, Choice, Abandon, ToCommit, Vote, Get, Puts, Prepare, Finalize, Accepted, Decide, Voted}
use Rattle.protocol.specs.Client.State.{content, values, walk, Rules, ClientState, Phase, CountedVote, Decision}
use Rattle.protocol.specs.Lists.{IsIn}
use Rattle.protocol.specs.Replica.Votes.{is_commit_vote}
use Rattle.protocol.specs.declared.Fate.{Fate}
use Rattle.protocol.specs.declared.TallyOut.{TallyOut}
use Rattle.protocol.specs.declared.TallyOut.TheVariants.{Wait, FastCommit, FastAbandon, Propose}
use Rattle.protocol.specs.Quorums.{quorum}
use Rattle.protocol.specs.Client.Counting.{tally_says, count_votes, is_final_vote, not_commit}
use Rattle.protocol.specs.Client.Deciding.{content_for}
use Rattle.protocol.specs.Client.State.Phase.{Between, Running, Prepared}
use Rattle.protocol.specs.declared.Fate.TheVariants.{Live, Aborted}
use Rattle.protocol.proofs.TestLemmas.{and_right, le_is, lt_is}
use Rattle.law_steps.specs.Executions.{IsEarlier}

abbrev pub IsQuiet : Body → Type 0
IsQuiet (Get x k) = Unit {0}
IsQuiet (Puts x ws) = Unit {0}
IsQuiet _ = ⊥

abbrev pub AllQuiet : List Body → Type 0
AllQuiet [] = Unit {0}
AllQuiet (b ∷ bs) = IsQuiet b × AllQuiet bs

abbrev pub IsRunning : Phase → Type 0
IsRunning (Running p g) = Unit {0}
IsRunning _ = ⊥

abbrev pub IsUnprepared : Phase → Type 0
IsUnprepared (Prepared k v o a) = ⊥
IsUnprepared _ = Unit {0}

abbrev pub IsUnderWay : Phase → Type 0
IsUnderWay Between = ⊥
IsUnderWay _ = Unit {0}

abbrev pub SameStage : Phase → Phase → Type 0
SameStage Between q = q ≡ Between
SameStage (Running p g) q = IsRunning q
SameStage (Prepared k v o a) q = q ≡ Prepared k v o a

-- the execution is under way, or was decided
abbrev pub WasBegun : ClientState → Type 0
WasBegun c = IsUnderWay c.phase ⊎ ((d : Decision) × IsIn d c.decisions × (d.exec ≡ c.exec))

-- why a client decides by itself on what is prepared
pub data Reason (n : ℕ) (votes : List CountedVote) (proposal : Option Choice) (accepts : List ℕ) (d : Choice) : Type 0 where
  All_commit : proposal ≡ None → d ≡ ToCommit → n ≤ count_votes is_commit_vote votes → Reason n votes proposal accepts d
  One_final : proposal ≡ None → d ≡ Abandon → 0 < count_votes is_final_vote votes → Reason n votes proposal accepts d
  By_quorum : proposal ≡ Some d → quorum n ≤ length accepts → Reason n votes proposal accepts d

-- only reads and writes are sent, if anything, and the execution stands where it stood
pub record QuietAct (c c' : ClientState) (sent : List Body) : Type 0 where
  pub exec : c'.exec ≡ c.exec
  pub decisions : c'.decisions ≡ c.decisions
  pub stage : SameStage c.phase c'.phase
  pub quiet : AllQuiet sent

-- a later execution begins
pub record AdvanceAct (r : Rules) (c c' : ClientState) (sent : List Body) : Type 0 where
  pub from : IsUnprepared c.phase
  pub running : IsRunning c'.phase
  pub later : IsEarlier c.exec c'.exec
  pub own : (c'.exec.ver.client ≡ r.client) ⊎ ((c'.exec.ver ≡ c.exec.ver) × WasBegun c)
  pub decisions : c'.decisions ≡ c.decisions
  pub silent : sent ≡ []

-- what ran is prepared
pub record PrepareAct (c c' : ClientState) (sent : List Body) : Type 0 where
  pub content : Content
  pub running : IsRunning c.phase
  pub exec : c'.exec ≡ c.exec
  pub decisions : c'.decisions ≡ c.decisions
  pub phase : c'.phase ≡ Prepared content [] None []
  pub sends : sent ≡ Prepare c.exec content ∷ []

-- a replica's vote is counted
pub record CountAct (r : Rules) (Got : NodeId → Body → Type 0) (c c' : ClientState) (sent : List Body) : Type 0 where
  pub content : Content
  pub votes : List CountedVote
  pub accepts : List ℕ
  pub replica : ℕ
  pub vote : Vote
  pub before : c.phase ≡ Prepared content votes None accepts
  pub got : Got (Replica replica) (Voted c.exec vote)
  pub range : (0 < replica) × (replica ≤ r.replicas)
  pub fresh : list_any (λ b. b.replica == replica) votes ≡ false
  pub exec : c'.exec ≡ c.exec
  pub decisions : c'.decisions ≡ c.decisions
  pub phase : c'.phase ≡ Prepared content (votes ++ record { replica = replica; vote = vote } ∷ []) None []
  pub silent : sent ≡ []

-- a choice is proposed in view 0
pub record ProposeAct (r : Rules) (c c' : ClientState) (sent : List Body) : Type 0 where
  pub content : Content
  pub votes : List CountedVote
  pub accepts : List ℕ
  pub choice : Choice
  pub before : c.phase ≡ Prepared content votes None accepts
  pub ground : choice ≡ ToCommit → quorum r.replicas ≤ count_votes is_commit_vote votes
  pub exec : c'.exec ≡ c.exec
  pub decisions : c'.decisions ≡ c.decisions
  pub phase : c'.phase ≡ Prepared content votes (Some choice) []
  pub sends : sent ≡ Finalize c.exec 0 choice (content_for content choice) ∷ []

-- a replica's acceptance of the proposal is counted
pub record AcceptAct (r : Rules) (Got : NodeId → Body → Type 0) (c c' : ClientState) (sent : List Body) : Type 0 where
  pub content : Content
  pub votes : List CountedVote
  pub choice : Choice
  pub accepts : List ℕ
  pub replica : ℕ
  pub before : c.phase ≡ Prepared content votes (Some choice) accepts
  pub got : Got (Replica replica) (Accepted c.exec 0)
  pub range : (0 < replica) × (replica ≤ r.replicas)
  pub fresh : list_any (λ i. i == replica) accepts ≡ false
  pub exec : c'.exec ≡ c.exec
  pub decisions : c'.decisions ≡ c.decisions
  pub phase : c'.phase ≡ Prepared content votes (Some choice) (accepts ++ replica ∷ [])
  pub silent : sent ≡ []

-- the votes or the acceptances decide
pub record DecideAct (r : Rules) (c c' : ClientState) (sent : List Body) : Type 0 where
  pub content : Content
  pub votes : List CountedVote
  pub proposal : Option Choice
  pub accepts : List ℕ
  pub choice : Choice
  pub before : c.phase ≡ Prepared content votes proposal accepts
  pub reason : Reason r.replicas votes proposal accepts choice
  pub exec : c'.exec ≡ c.exec
  pub decisions : c'.decisions ≡ record { exec = c.exec; choice = choice } ∷ c.decisions
  pub phase : c'.phase ≡ Between
  pub sends : sent ≡ Decide c.exec choice (content_for content choice) ∷ []

-- what runs is given up before it is prepared
pub record GiveUpAct (c c' : ClientState) (sent : List Body) : Type 0 where
  pub running : IsRunning c.phase
  pub exec : c'.exec ≡ c.exec
  pub decisions : c'.decisions ≡ record { exec = c.exec; choice = Abandon } ∷ c.decisions
  pub phase : c'.phase ≡ Between
  pub sends : sent ≡ Decide c.exec Abandon None ∷ []

-- a warden's decision is learnt
pub record LearnAct (Got : NodeId → Body → Type 0) (c c' : ClientState) (sent : List Body) : Type 0 where
  pub warden : ℕ
  pub choice : Choice
  pub content : Option Content
  pub under_way : IsUnderWay c.phase
  pub got : Got (Warden warden) (Decide c.exec choice content)
  pub exec : c'.exec ≡ c.exec
  pub decisions : c'.decisions ≡ record { exec = c.exec; choice = choice } ∷ c.decisions
  pub phase : c'.phase ≡ Between
  pub silent : sent ≡ []

-- the small acts of which a client's step is made; Got says which envelopes came to it
pub data ClientAct (r : Rules) (Got : NodeId → Body → Type 0) (c c' : ClientState) (sent : List Body) : Type 0 where
  Quiet : QuietAct c c' sent → ClientAct r Got c c' sent
  Advances : AdvanceAct r c c' sent → ClientAct r Got c c' sent
  Prepares : PrepareAct c c' sent → ClientAct r Got c c' sent
  Counts : CountAct r Got c c' sent → ClientAct r Got c c' sent
  Proposes : ProposeAct r c c' sent → ClientAct r Got c c' sent
  Accepts : AcceptAct r Got c c' sent → ClientAct r Got c c' sent
  Decides : DecideAct r c c' sent → ClientAct r Got c c' sent
  Gives_up : GiveUpAct c c' sent → ClientAct r Got c c' sent
  Learns : LearnAct Got c c' sent → ClientAct r Got c c' sent

abbrev pub IsAborted : Fate → Type 0
IsAborted Aborted = Unit {0}
IsAborted _ = ⊥

abbrev pub IsLive : Fate → Type 0
IsLive Live = Unit {0}
IsLive _ = ⊥

-- under way, or decided just now
abbrev pub IsOn : ClientState → Type 0
IsOn c = IsUnderWay c.phase ⊎ IsLive c.fate

-- what an act does to the try and the execution
pub data TryStep (c c' : ClientState) : Type 0 where
  Keeps : c'.exec ≡ c.exec → c'.begun ≡ c.begun → c'.attempts ≡ c.attempts → ((e : Decision) → IsIn e c.decisions → IsIn e c'.decisions)
      → (c'.phase ≡ Between → IsAborted c'.fate → ((c.phase ≡ Between) × IsAborted c.fate) ⊎ IsIn (record { exec = c.exec; choice = Abandon }) c'.decisions)
      → (IsOn c' → IsOn c) → TryStep c c'
  Next_exec : c'.exec.ver ≡ c.exec.ver → c'.begun ≡ c.begun → c'.attempts ≡ c.attempts → ((e : Decision) → IsIn e c.decisions → IsIn e c'.decisions)
      → IsRunning c.phase ⊎ (IsLive c.fate × IsIn (record { exec = c.exec; choice = Abandon }) c.decisions) → IsRunning c'.phase → TryStep c c'
  Next_try : c.phase ≡ Between → c.exec.ver.ts < c'.exec.ver.ts → c'.attempts ≡ record { ver = c'.exec.ver; txn = c'.begun; try = c'.try } ∷ c.attempts →
      ((e : Decision) → IsIn e c.decisions → IsIn e c'.decisions)
      → ((c'.begun ≡ c.begun) × IsAborted c.fate) ⊎ (c'.begun ≡ c.begun + 1) → IsRunning c'.phase → TryStep c c'

-- the execution goes on: it has the answers that it had, and perhaps more
pub record Continues (c c' : ClientState) : Type 0 where
  pub exec : c'.exec ≡ c.exec
  pub running : IsRunning c.phase
  pub begun : c'.begun ≡ c.begun
  pub more : List ℤ
  pub answers : values c'.answers ≡ values c.answers ++ more

-- what an act does to the writes of the execution under way: its answers only grow, what it puts are its writes, and
-- what it prepares is its content, once it has ended
pub record WriteStep (r : Rules) (c c' : ClientState) (sent : List Body) : Type 0 where
  pub grows : IsRunning c'.phase → Continues c c' ⊎ IsEarlier c.exec c'.exec
  pub puts : (x : Exec) (ws : List Write) → IsIn (Puts x ws) sent → (x ≡ c'.exec) × IsRunning c'.phase × (ws ≡ (walk r c').writes)
  pub prepares : (x : Exec) (k : Content) → IsIn (Prepare x k) sent →
      (x ≡ c.exec) × IsRunning c.phase × ((e : Ending) × (k ≡ content r c e) × ((walk r c).ending ≡ Some e))

-- acts one after another
pub data Chain (r : Rules) (Got : NodeId → Body → Type 0) (c : ClientState) : ClientState → List Body → Type 0 where
  Start : Chain r Got c c []
  Then : (c1 c2 : ClientState) (s1 s2 : List Body) → Chain r Got c c1 s1 → ClientAct r Got c1 c2 s2 → TryStep c1 c2 → WriteStep r c1 c2 s2 →
      Chain r Got c c2 (s1 ++ s2)

-- what the counted votes call for has its ground in them
abbrev pub Tells : ℕ → List CountedVote → TallyOut → Type 0
Tells n votes FastCommit = n ≤ count_votes is_commit_vote votes
Tells n votes FastAbandon = 0 < count_votes is_final_vote votes
Tells n votes (Propose ToCommit) = quorum n ≤ count_votes is_commit_vote votes
Tells n votes _ = Unit {0}

pub tally_tells : (n : ℕ) (votes : List CountedVote) → Tells n votes (tally_says n votes)
unfolding tally_says
tally_tells n votes = all (nat_le n (count_votes is_commit_vote votes)) refl
  where
    most : (t : Bool) → Tells n votes (cond t (Propose Abandon) Wait)
    most true = tt
    most false = tt

    some : (t : Bool) → (nat_lt 0 (count_votes not_commit votes) && nat_le (quorum n) (count_votes is_commit_vote votes)) ≡ t →
        Tells n votes (cond t (Propose ToCommit) (cond (nat_le (quorum n) (count_votes not_commit votes)) (Propose Abandon) Wait))
    some true q = le_is _ _ (and_right _ _ q)
    some false q = most (nat_le (quorum n) (count_votes not_commit votes))

    final : (t : Bool) → nat_lt 0 (count_votes is_final_vote votes) ≡ t →
        Tells n votes (cond t FastAbandon (cond (nat_lt 0 (count_votes not_commit votes) && nat_le (quorum n) (count_votes is_commit_vote votes)) (Propose ToCommit) (cond (nat_le (quorum n) (count_votes not_commit votes)) (Propose Abandon) Wait)))
    final true q = lt_is _ _ q
    final false q = some _ refl

    all : (t : Bool) → nat_le n (count_votes is_commit_vote votes) ≡ t →
        Tells n votes (cond t FastCommit (cond (nat_lt 0 (count_votes is_final_vote votes)) FastAbandon (cond (nat_lt 0 (count_votes not_commit votes) && nat_le (quorum n) (count_votes is_commit_vote votes)) (Propose ToCommit) (cond (nat_le (quorum n) (count_votes not_commit votes)) (Propose Abandon) Wait))))
    all true q = le_is _ _ q
    all false q = final _ refl

-- a Finalize among the bodies of an act
abbrev pub IsOpen : Phase → Type 0
IsOpen (Prepared k v None a) = Unit {0}
IsOpen _ = ⊥

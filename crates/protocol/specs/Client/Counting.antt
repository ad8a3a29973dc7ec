-- How a client counts votes and acceptances.
use Rattle.std.specs.Prelude.{cond, ℕ, suc, Bool, true, false, not, ◌&&◌, ◌==◌, nat_lt, nat_le, List, [], ◌∷◌, ◌++◌, length, Option, Some, None}
use Rattle.std.specs.List.{list_any}
use Rattle.protocol.specs.Words.{Exec, NodeId, Replica, Vote, Final, Choice, Abandon, ToCommit, Content, Finalize, same_exec}
use Rattle.std.specs.Bool.{then_some}
use Rattle.protocol.specs.Lists.{tally}
use Rattle.protocol.specs.Replica.Votes.{is_commit_vote}
use Rattle.protocol.specs.Client.State.{turn_when, CountedVote, ClientState, Rules, Turn, idle}
use Rattle.protocol.specs.Client.Deciding.{content_for, decide}
use Rattle.protocol.specs.Quorums.{quorum}
use Rattle.protocol.specs.Client.State.Phase.{Prepared}
use Rattle.protocol.specs.declared.TallyOut.{TallyOut}
use Rattle.protocol.specs.declared.TallyOut.TheVariants.{Wait, FastCommit, FastAbandon, Propose}

-- how many of the votes pass
abbrev pub count_votes : (Vote → Bool) → List CountedVote → ℕ
count_votes p bs = tally (λ b. p b.vote) bs

-- the vote is Final
abbrev pub is_final_vote : Vote → Bool
is_final_vote Final = true
is_final_vote _ = false

-- the vote is not Commit
abbrev pub not_commit : Vote → Bool
not_commit vote = not (is_commit_vote vote)

-- the same execution, prepared with these votes
abbrev pub prepared : ClientState → Content → List CountedVote → Option Choice → List ℕ → ClientState
prepared c content votes proposal accepts = record c { phase = Prepared content votes proposal accepts }

-- the client proposes a choice in view 0
unfoldable pub propose : ClientState → Content → List CountedVote → Choice → Turn
propose c content votes choice = record { state = prepared c content votes (Some choice) []; sent = Finalize c.exec 0 choice (content_for content choice) ∷ [] }

-- what the counted votes of n replicas call for: the first case that holds
unfoldable pub tally_says : ℕ → List CountedVote → TallyOut
tally_says n votes =
    cond (nat_le n (count_votes is_commit_vote votes)) FastCommit
    (cond (nat_lt 0 (count_votes is_final_vote votes)) FastAbandon
    (cond (nat_lt 0 (count_votes not_commit votes) && nat_le (quorum n) (count_votes is_commit_vote votes)) (Propose ToCommit)
    (cond (nat_le (quorum n) (count_votes not_commit votes)) (Propose Abandon)
    Wait)))

-- what is proposed without waiting for more votes
abbrev pub hurried : ℕ → List CountedVote → Choice
hurried n votes = cond (nat_le (quorum n) (count_votes is_commit_vote votes)) ToCommit Abandon

-- the client does what its votes call for
unfoldable pub on_tally : Rules → ClientState → Content → List CountedVote → TallyOut → Turn
on_tally rules c content votes FastCommit = decide rules (prepared c content votes None []) content ToCommit
on_tally rules c content votes FastAbandon = decide rules (prepared c content votes None []) content Abandon
on_tally rules c content votes (Propose d) = propose c content votes d
on_tally rules c content votes Wait = idle (prepared c content votes None [])

-- the number of a sender that is one of the n replicas
abbrev pub sender : ℕ → NodeId → Option ℕ
sender n (Replica k) = then_some (nat_lt 0 k && nat_le k n) k
sender n _ = None

-- the first vote of each replica on the prepared execution
unfoldable pub counts_vote : Rules → ClientState → Content → List CountedVote → Exec → ℕ → Vote → Turn
counts_vote rules c content votes x j v =
    let more = votes ++ record { replica = j; vote = v } ∷ [] in
    turn_when (same_exec x c.exec && not (list_any (λ b. b.replica == j) votes)) c (on_tally rules c content more (tally_says rules.replicas more))

-- f+1 Accepted of view 0 decide what the client proposed
unfoldable pub counts_accept : Rules → ClientState → Content → List CountedVote → Choice → List ℕ → Exec → ℕ → ℕ → Turn
counts_accept rules c content votes choice accepts x view j =
    let now = prepared c content votes (Some choice) (accepts ++ j ∷ []) in
    turn_when (same_exec x c.exec && ((view == 0) && not (list_any (λ i. i == j) accepts))) c
    (turn_when (nat_le (quorum rules.replicas) (suc (length accepts))) now (decide rules now content choice))

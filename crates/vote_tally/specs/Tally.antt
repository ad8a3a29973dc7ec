-- What contracts see of a tally.
use Rattle.std.specs.Prelude.{◌≡◌, ℕ, ◌≤◌, ◌<◌, Bool, ◌⊎◌, ◌==◌, List, [], ◌∷◌, ◌++◌, map}
use Rattle.std.specs.List.{list_any}
use Rattle.protocol.specs.Words.{Vote}
use Rattle.protocol.specs.Lists.{IsIn}
use Rattle.protocol.specs.Client.State.{CountedVote}
use Rattle.protocol.specs.Quorums.{HasNoRepeats, quorum}
use Rattle.protocol.specs.Replica.Votes.{is_commit_vote}
use Rattle.protocol.specs.Client.Counting.{count_votes, is_final_vote, not_commit}

-- the number of replicas, and the first vote of each that voted, in order of arrival
pub record Counted : Type 0 where
  pub replicas : ℕ
  pub votes : List CountedVote

-- the replica has voted
abbrev pub has_voted : ℕ → Counted → Bool
has_voted j t = list_any (λ b. b.replica == j) t.votes

-- the tally with one more vote
abbrev pub with_vote : Counted → ℕ → Vote → Counted
with_vote t j v = record t { votes = t.votes ++ record { replica = j; vote = v } ∷ [] }

-- the replicas that voted
abbrev pub voters : Counted → List ℕ
voters t = map (λ b. b.replica) t.votes

-- at most one vote of each of the replicas, from 1 on, and of no other
pub record HasFirstVotes (t : Counted) : Type 0 where
  pub distinct : HasNoRepeats (voters t)
  pub ranged : (j : ℕ) → IsIn j (voters t) → (0 < j) × (j ≤ t.replicas)

-- no case of the rule on votes holds
pub record CallsForNothing (t : Counted) : Type 0 where
  pub not_all_commit : count_votes is_commit_vote t.votes < t.replicas
  pub none_final : count_votes is_final_vote t.votes ≡ 0
  pub no_mixed_majority : (count_votes not_commit t.votes ≡ 0) ⊎ (count_votes is_commit_vote t.votes < quorum t.replicas)
  pub no_majority_against : count_votes not_commit t.votes < quorum t.replicas

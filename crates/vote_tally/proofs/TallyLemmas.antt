-- A tally has room for the vote of a replica that has not voted, and its votes stay first votes.
use Rattle.std.proofs.Common.{◌≡◌, ℕ, ◌+◌, ◌<◌, ◌≤◌, inl, inr, ap, false, [], ◌∷◌, ◌++◌, length, arith, length-append}
use Rattle.std.proofs.lemmas.List.{map-append, length-map}
use Rattle.protocol.specs.Words.{Vote}
use Rattle.protocol.specs.Client.State.{CountedVote}
use Rattle.protocol.proofs.ListsLemmas.{IsIn-cases}
use Rattle.protocol.proofs.QuorumsLemmas.{distinct_few}
use Rattle.protocol.proofs.DistinctLemmas.{distinct_more, absent}
use Rattle.vote_tally.specs.Tally.{Counted, has_voted, with_vote, voters, HasFirstVotes}

module _ (t : Counted) (j : ℕ) (v : Vote) (low : 0 < j) (high : j ≤ t.replicas) (new : has_voted j t ≡ false) (first : HasFirstVotes t) where
  voters_more : voters (with_vote t j v) ≡ voters t ++ j ∷ []
  voters_more = map-append (λ (b : CountedVote). b.replica) t.votes (record { replica = j; vote = v } ∷ [])

  -- the vote of a replica that has not voted is one more first vote
  pub first_more : HasFirstVotes (with_vote t j v)
  first_more = record {
    distinct = rw voters_more (distinct_more (voters t) j first.distinct (absent (λ (b : CountedVote). b.replica) j t.votes new));
    ranged = λ i. rw voters_more (λ k. elim (IsIn-cases i (voters t) (j ∷ []) k) [ inl a ↦ first.ranged i a | inr a ↦ elim a [ inl q ↦ (omega arith, omega arith) | inr z ↦ absurd z ] ]);
  }

  -- fewer votes than replicas are counted while one has not voted
  pub room_left : length t.votes < t.replicas
  room_left =
      let few : length (voters (with_vote t j v)) ≤ t.replicas = distinct_few t.replicas (voters (with_vote t j v)) first_more.distinct first_more.ranged in
      let more : length (voters (with_vote t j v)) ≡ length (voters t ++ j ∷ []) = ap length voters_more in
      let one : length (voters t ++ j ∷ []) ≡ length (voters t) + 1 = length-append (voters t) (j ∷ []) in
      let same : length (voters t) ≡ length t.votes = length-map t.votes (λ (b : CountedVote). b.replica) in
      omega arith

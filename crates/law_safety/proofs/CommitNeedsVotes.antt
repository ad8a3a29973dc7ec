-- Where Commit was decided or proposed, a quorum voted Commit.
use Rattle.law_steps.proofs.AlwaysLemmas.{always}
use Rattle.law_safety.specs.Invariants.{CommitNeedsVotes, CommitNeedsVotesOf}
use Rattle.law_safety.proofs.InvariantHolds.{safe_reach}
use Rattle.law_safety.proofs.CommitIsSent.{committed_sent}

pub commit_needs_votes : CommitNeedsVotes
commit_needs_votes = always CommitNeedsVotesOf (λ p some w q. record {
  decided = λ x c. let d = committed_sent p some w q x c in ((safe_reach p some w q).committed x d.0 d.1).1;
  proposed = (safe_reach p some w q).proposals.commit;
})

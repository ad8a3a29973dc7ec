use Rattle.law_safety.proofs.CommitNeedsVotes as proved
use Rattle.law_safety.proofs.commit_needs_votes.Goals as goal

pub returns : goal.returns
returns c = proved.commit_needs_votes

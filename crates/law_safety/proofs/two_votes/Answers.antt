use Rattle.law_safety.proofs.TwoVotes as proved
use Rattle.law_safety.proofs.two_votes.Goals as goal

pub returns : goal.returns
returns c = proved.two_votes

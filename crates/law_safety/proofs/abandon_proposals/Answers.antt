use Rattle.law_safety.proofs.AbandonProposals as proved
use Rattle.law_safety.proofs.abandon_proposals.Goals as goal

pub returns : goal.returns
returns c = proved.abandon_proposals

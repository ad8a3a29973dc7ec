use Rattle.law_safety.proofs.CommitIsSent as proved
use Rattle.law_safety.proofs.commit_is_sent.Goals as goal

pub returns : goal.returns
returns c = proved.commit_is_sent

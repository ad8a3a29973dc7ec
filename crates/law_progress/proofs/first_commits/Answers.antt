use Rattle.law_progress.proofs.FirstCommits as proved
use Rattle.law_progress.proofs.first_commits.Goals as goal

pub returns : goal.returns
returns c = proved.first_commits

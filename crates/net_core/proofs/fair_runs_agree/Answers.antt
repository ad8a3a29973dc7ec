use Rattle.net_core.proofs.AnswersDecide as proved
use Rattle.net_core.proofs.fair_runs_agree.Goals as goal

pub returns : goal.returns
returns c = proved.fair_runs_agree

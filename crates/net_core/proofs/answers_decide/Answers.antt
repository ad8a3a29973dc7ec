use Rattle.net_core.proofs.AnswersDecide as proved
use Rattle.net_core.proofs.answers_decide.Goals as goal

pub returns : goal.returns
returns c = proved.answers_decide

use Rattle.law_outcomes.proofs.Outcomes as proved
use Rattle.law_outcomes.proofs.outcomes_are_correct.Goals as goal

pub returns : goal.returns
returns c = proved.outcomes_are_correct

use Rattle.law_safety.proofs.DecisionsStay as proved
use Rattle.law_safety.proofs.decisions_stay.Goals as goal

pub returns : goal.returns
returns c = proved.decisions_stay

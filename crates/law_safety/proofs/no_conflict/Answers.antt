use Rattle.law_safety.proofs.NoConflict as proved
use Rattle.law_safety.proofs.no_conflict.Goals as goal

pub returns : goal.returns
returns c = proved.no_conflict

use Rattle.law_safety.proofs.LocksHold as proved
use Rattle.law_safety.proofs.locks_hold.Goals as goal

pub returns : goal.returns
returns c = proved.locks_hold

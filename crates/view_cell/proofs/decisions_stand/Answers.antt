-- The law on decisions.
use Rattle.view_cell.proofs.DecisionsStand.{decisions_stand}
use Rattle.view_cell.proofs.decisions_stand.Goals as goal

pub returns : goal.returns
returns c = decisions_stand

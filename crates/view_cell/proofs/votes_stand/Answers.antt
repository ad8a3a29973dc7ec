-- The law on votes.
use Rattle.view_cell.proofs.VotesStand.{votes_stand}
use Rattle.view_cell.proofs.votes_stand.Goals as goal

pub returns : goal.returns
returns c = votes_stand

use Rattle.std.proofs.Common.{◌∙◌, ap}
use Rattle.replica.specs.Ballots.{or_blank}
use Rattle.replica.proofs.BallotTurns.{cell_at_first}
use Rattle.replica.proofs.ballots.Ballots.cell.Goals as goal

pub returns-in-None : goal.returns-in-None
returns-in-None c = cell_at_first c.new.result c.new.ensures c.args.exec ∙ ap (λ o. (or_blank o).cell) c.in-None.ensures.value

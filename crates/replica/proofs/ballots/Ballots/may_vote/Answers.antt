use Rattle.std.proofs.Common.{◌∙◌, ap, sym}
use Rattle.view_cell.specs.Cell.{open_to_vote}
use Rattle.replica.specs.Ballots.{ballot_at}
use Rattle.view_cell.proofs.CellLemmas.{open_is}
use Rattle.replica.proofs.ballots.Ballots.may_vote.Goals as goal

pub returns : goal.returns
returns c = λ h s b. c.is_open.ensures ∙ (ap open_to_vote c.cell.ensures
    ∙ sym (open_is h c.args.exec (ballot_at c.args.self.now c.args.exec).cell (s.each c.args.exec b).cell))

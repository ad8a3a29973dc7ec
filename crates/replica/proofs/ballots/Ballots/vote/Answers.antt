use Rattle.std.proofs.Common.{◌∙◌, ap, sym, subst, refl, Some}
use Rattle.protocol.specs.Words.{Prepare}
use Rattle.view_cell.specs.Cell.{StandsFor as IsCellOf}
use Rattle.replica.specs.declared.ballots.Ballot.{Ballot}
use Rattle.replica.proofs.BallotTurns.{ballots_turn, known_vote, voted_cell}
use Rattle.replica.proofs.ballots.Ballots.vote.Goals as goal

pub returns : goal.returns
returns c = λ h from to s b may is.
    let x = c.args.exec in
    let content = c.args.content.now in
    let old = c.args.self.now in
    let k = s.each x b in
    let new : Ballot = record { cell = record c.cell-cell.result { vote = Some c.args.vote }; content = Some c.in_ok-content.content } in
    ballots_turn h from to (Prepare x content) x new old _ (λ z. refl) c.in_ok-put.ensures
    (record {
      cell = voted_cell h from to x content c.cell-cell.result c.args.vote (subst (IsCellOf h x) (sym c.cell-cell.ensures) k.cell) may is;
      content = ap Some c.in_ok-content.ensures ∙ sym (known_vote h from to x content may);
    }) s

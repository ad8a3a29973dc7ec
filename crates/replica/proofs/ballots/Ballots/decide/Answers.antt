use Rattle.std.proofs.Common.{◌≡◌, ◌∙◌, ap, sym, subst, cond, refl, Some}
use Rattle.protocol.specs.Words.{Exec, same_exec, Decide}
use Rattle.view_cell.specs.Cell.{StandsFor as IsCellOf}
use Rattle.replica.specs.Ballots.{ballot_at, blank}
use Rattle.replica.specs.declared.ballots.Ballot.{Ballot}
use Rattle.protocol.specs.Replica.Acceptor.{decided}
use Rattle.protocol.specs.Replica.Votes.{known}
use Rattle.replica.specs.Known.{known_after}
use Rattle.replica.proofs.BallotTurns.{ballots_turn, known_decided, put_twice, decided_cell}
use Rattle.replica.proofs.ballots.Ballots.decide.Goals as goal

pub returns : goal.returns
returns c = λ h from to s b e.
    let x = c.args.exec in
    let d = c.args.choice in
    let content = c.args.content.now in
    let old = c.args.self.now in
    let k = s.each x b in
    let new : Ballot = record { cell = record c.cell-cell.result { decided = Some d }; content = c.in_ok-known.known } in
    let changes : (z : Exec) → ballot_at c.put.new.self z ≡ cond (same_exec z x) new (ballot_at old z) = λ z. c.in_ok-put.ensures z
    ∙ (ap (λ o. cond (same_exec z x) new o) (c.take-kept.ensures.rest z) ∙ put_twice (same_exec z x) new blank (ballot_at old z)) in
    ballots_turn h from to (Decide x d content) x new old _ (λ z. refl) changes
    (record {
      cell = decided_cell h from to x d content c.cell-cell.result (subst (IsCellOf h x) (sym c.cell-cell.ensures) k.cell) e;
      content = c.in_ok-known.ensures
          ∙ (ap (known_after d content) (ap (λ (q : Ballot). q.content) c.take-kept.ensures.taken ∙ k.content)
          ∙ sym (known_decided h from to x d content e));
    }) s

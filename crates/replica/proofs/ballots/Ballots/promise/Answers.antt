use Rattle.std.proofs.Common.{◌≡◌, ◌∙◌, ap, sym, subst, cond, refl, Some}
use Rattle.protocol.specs.Words.{Exec, same_exec, Ask}
use Rattle.view_cell.specs.Cell.{StandsFor as IsCellOf}
use Rattle.mv_index.proofs.VotesSame.{after_body}
use Rattle.replica.specs.Ballots.{ballot_at, blank}
use Rattle.replica.specs.declared.ballots.Ballot.{Ballot}
use Rattle.replica.proofs.BallotTurns.{ballots_turn, ballots_same, known_ask, put_twice}
use Rattle.replica.proofs.ballots.Ballots.promise.Goals as goal

pub returns-in-None-clause-stands : goal.returns-in-None-clause-stands
returns-in-None-clause-stands c = λ h from to s b.
    let x = c.args.exec in
    let old = c.args.self.now in
    let k = s.each x b in
    ballots_same h from to (Ask x c.args.view) x old (λ z. refl)
    (record {
      cell = subst (IsCellOf (after_body h from to (Ask x c.args.view)) x) (c.in-None.ensures.unchanged ∙ c.cell-cell.ensures)
          (c.promise.ensures.next h x from to (subst (IsCellOf h x) (sym c.cell-cell.ensures) k.cell));
      content = k.content ∙ sym (known_ask h from to x c.args.view);
    }) s

pub returns-in_ok-put-in-Some-clause-stands : goal.returns-in_ok-put-in-Some-clause-stands
returns-in_ok-put-in-Some-clause-stands c = λ h from to s b.
    let x = c.args.exec in
    let old = c.args.self.now in
    let k = s.each x b in
    let new : Ballot = record { cell = c.promise.new.self; content = c.take-kept.result.content } in
    let changes : (z : Exec) → ballot_at c.put.new.self z ≡ cond (same_exec z x) new (ballot_at old z) = λ z. c.in_ok-put-in-Some.ensures z
    ∙ (ap (λ o. cond (same_exec z x) new o) (c.take-kept.ensures.rest z) ∙ put_twice (same_exec z x) new blank (ballot_at old z)) in
    ballots_turn h from to (Ask x c.args.view) x new old _ (λ z. refl) changes
    (record {
      cell = c.promise.ensures.next h x from to (subst (IsCellOf h x) (sym c.cell-cell.ensures) k.cell);
      content = ap (λ (q : Ballot). q.content) c.take-kept.ensures.taken ∙ (k.content ∙ sym (known_ask h from to x c.args.view));
    }) s

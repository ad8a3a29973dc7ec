use Rattle.std.proofs.Common.{◌≡◌, ◌∙◌, ap, sym, subst, cond, refl, true, false}
use Rattle.std.specs.Prelude.{nat_le}
use Rattle.std.specs.Option.{option_or}
use Rattle.protocol.specs.Words.{Exec, same_exec, Finalize}
use Rattle.view_cell.specs.Cell.{StandsFor as IsCellOf}
use Rattle.mv_index.proofs.VotesSame.{after_body}
use Rattle.replica.specs.Ballots.{ballot_at, blank}
use Rattle.replica.specs.declared.ballots.Ballot.{Ballot}
use Rattle.protocol.specs.Replica.Acceptor.{promised}
use Rattle.protocol.specs.Replica.Votes.{known}
use Rattle.mv_index.proofs.Growth.{option_or_none}
use Rattle.replica.proofs.BallotTurns.{ballots_turn, ballots_same, known_finalize, accept_level, put_twice}
use Rattle.replica.proofs.ballots.Ballots.accept.Goals as goal

pub returns-then-not-accept-clause-stands : goal.returns-then-not-accept-clause-stands
returns-then-not-accept-clause-stands c = λ h from to s b.
    let x = c.args.exec in
    let v = c.args.view in
    let content = c.args.content.now in
    let old = c.args.self.now in
    let k = s.each x b in
    let cell = subst (IsCellOf h x) (sym c.cell-cell.ensures) k.cell in
    let level = ap (λ p. nat_le p v) (sym cell.promise)
    ∙ (accept_level c.cell-cell.result.promised v c.accept.result c.accept.ensures.taken ∙ c.if-not-accept.true) in
    ballots_same h from to (Finalize x v c.args.choice content) x old (λ z. refl)
    (record {
      cell = subst (IsCellOf (after_body h from to (Finalize x v c.args.choice content)) x) (c.if-not-accept.ensures.unchanged ∙ c.cell-cell.ensures)
          (c.accept.ensures.next h x content from to cell);
      content = k.content ∙ sym (known_finalize h from to x v c.args.choice content false level ∙ option_or_none (known h x));
    }) s

pub returns-clause-stands : goal.returns-clause-stands
returns-clause-stands c = λ h from to s b.
    let x = c.args.exec in
    let v = c.args.view in
    let content = c.args.content.now in
    let old = c.args.self.now in
    let k = s.each x b in
    let cell = subst (IsCellOf h x) (sym c.cell-cell.ensures) k.cell in
    let level = ap (λ p. nat_le p v) (sym cell.promise)
    ∙ (accept_level c.cell-cell.result.promised v c.accept.result c.accept.ensures.taken ∙ c.if-not-accept.false) in
    let new : Ballot = record { cell = c.accept.new.self; content = c.in_ok-known.known } in
    let changes : (z : Exec) → ballot_at c.put.new.self z ≡ cond (same_exec z x) new (ballot_at old z) = λ z. c.in_ok-put.ensures z
    ∙ (ap (λ o. cond (same_exec z x) new o) (c.take-kept.ensures.rest z) ∙ put_twice (same_exec z x) new blank (ballot_at old z)) in
    ballots_turn h from to (Finalize x v c.args.choice content) x new old _ (λ z. refl) changes
    (record {
      cell = c.accept.ensures.next h x content from to cell;
      content = c.in_ok-known.ensures
          ∙ (ap (λ o. option_or o content) (ap (λ (q : Ballot). q.content) c.take-kept.ensures.taken ∙ k.content)
          ∙ sym (known_finalize h from to x v c.args.choice content true level));
    }) s

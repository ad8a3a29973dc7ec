use Rattle.std.proofs.Common.{◌∙◌, cond, ap, None}
use Rattle.std.specs.BTreeMap.{get}
use Rattle.view_cell.specs.declared.Cell.{Cell}
use Rattle.mv_index.specs.Orders.{exec_cmp}
use Rattle.mv_index.proofs.TableOrder.{exec_eq}
use Rattle.replica.specs.Ballots.{ballot_at, or_blank, blank}
use Rattle.replica.specs.declared.ballots.Ballot.{Ballot}
use Rattle.replica.proofs.BallotTurns.{cell_at_first, or_blank_none}
use Rattle.replica.proofs.ballots.Ballots.take.Goals as goal

pub returns-in-None-clause-taken : goal.returns-in-None-clause-taken
returns-in-None-clause-taken c =
    ap (λ (k : Cell). let b : Ballot = record { cell = k; content = None } in b) (cell_at_first c.new.result c.new.ensures c.args.exec)
    ∙ ap or_blank c.in-None.ensures.value

pub returns-in-None-clause-rest : goal.returns-in-None-clause-rest
returns-in-None-clause-rest c = λ x.
    ap or_blank (c.in-None.ensures.updates.0 x)
    ∙ (or_blank_none _ (get exec_cmp c.args.self.now.ballots x)
    ∙ ap (λ t. cond t blank (ballot_at c.args.self.now x)) (exec_eq c.args.exec x))

pub returns-in-Some-clause-rest : goal.returns-in-Some-clause-rest
returns-in-Some-clause-rest c = λ x.
    ap or_blank (c.in-Some.ensures.updates.0 x)
    ∙ (or_blank_none _ (get exec_cmp c.args.self.now.ballots x)
    ∙ ap (λ t. cond t blank (ballot_at c.args.self.now x)) (exec_eq c.args.exec x))

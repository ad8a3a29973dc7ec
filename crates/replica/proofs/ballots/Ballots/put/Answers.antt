use Rattle.std.proofs.Common.{◌∙◌, cond, ap}
use Rattle.std.specs.BTreeMap.{get}
use Rattle.mv_index.specs.Orders.{exec_cmp}
use Rattle.mv_index.proofs.TableOrder.{exec_eq}
use Rattle.replica.specs.Ballots.{ballot_at, or_blank}
use Rattle.replica.specs.declared.ballots.Ballot.{Ballot}
use Rattle.replica.proofs.BallotTurns.{or_blank_put}
use Rattle.replica.proofs.ballots.Ballots.put.Goals as goal

pub returns : goal.returns
returns c = λ x.
    let new : Ballot = record { cell = c.args.cell; content = c.args.content } in
    ap or_blank (c.in_ok-insert.ensures.updates.0 x)
    ∙ (or_blank_put _ new (get exec_cmp c.args.self.now.ballots x)
    ∙ ap (λ t. cond t new (ballot_at c.args.self.now x)) (exec_eq c.args.exec x))

use Rattle.std.proofs.Common.{refl}
use Rattle.protocol.specs.Words.{Finalize}
use Rattle.protocol.specs.Replica.Says.{answer}
use Rattle.mv_index.proofs.Unseen.{stands_other}
use Rattle.replica.proofs.ReplicaTurns.{keeps_with}
use Rattle.replica.proofs.replica.Replica.on_finalize.Goals as goal

pub returns-clause-stands : goal.returns-clause-stands
returns-clause-stands c = λ firsts number h from to k b.
    let g = Finalize c.args.exec c.args.view c.args.choice c.args.content.now in
    keeps_with firsts number h from to g c.args.self.now c.args.self.now.records _ refl refl k
    (stands_other firsts h from to g c.args.self.now.records refl k.records) k.told (c.in_ok-answer.ensures.stands h from to k.ballots b)

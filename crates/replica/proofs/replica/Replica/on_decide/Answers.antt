use Rattle.std.proofs.Common.{◌∙◌, sym, refl, true, false}
use Rattle.protocol.specs.Words.{Decide}
use Rattle.mv_index.proofs.Unseen.{stands_other}
use Rattle.replica.proofs.ReplicaTurns.{keeps_with, decided_some, decided_none, ballots_again}
use Rattle.replica.proofs.replica.Replica.on_decide.Goals as goal
use Rattle.protocol.specs.Replica.Acceptor.{decided}

pub returns-then-is_decided-clause-stands : goal.returns-then-is_decided-clause-stands
returns-then-is_decided-clause-stands c = λ firsts number h from to k b has.
    let x = c.args.exec in
    let g = Decide x c.args.choice c.args.content.now in
    let is = c.is_decided.ensures h k.ballots b in
    keeps_with firsts number h from to g c.args.self.now c.args.self.now.records c.args.self.now.ballots refl refl k
    (stands_other firsts h from to g c.args.self.now.records (sym is ∙ c.if-is_decided.true) k.records) k.told
    (ballots_again h from to x c.args.choice c.args.content.now c.args.self.now.ballots b
    (decided_some (decided h x) c.is_decided.result is c.if-is_decided.true) k.ballots)

pub returns-clause-stands : goal.returns-clause-stands
returns-clause-stands c = λ firsts number h from to k b has.
    let x = c.args.exec in
    let g = Decide x c.args.choice c.args.content.now in
    let none = decided_none (decided h x) c.is_decided.result (c.is_decided.ensures h k.ballots b) c.if-is_decided.false in
    keeps_with firsts number h from to g c.args.self.now _ _ refl refl k
    (c.in_ok-record_decision.ensures.stands firsts h from to k.records b none has)
    (c.in_ok-record_decision.ensures.told firsts h k.told)
    (c.in_ok-decide.ensures h from to k.ballots b none)

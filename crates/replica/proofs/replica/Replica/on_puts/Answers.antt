use Rattle.std.proofs.Common.{sym, subst, refl, true}
use Rattle.protocol.specs.Words.{Puts}
use Rattle.mv_index.specs.Records.{StandsFor as RecordsStandFor}
use Rattle.mv_index.proofs.Taken.{taken, takes_by_version}
use Rattle.replica.proofs.BallotTurns.{ballots_other}
use Rattle.replica.proofs.ReplicaTurns.{keeps_with}
use Rattle.replica.proofs.replica.Replica.on_puts.Goals as goal

pub returns-clause-stands : goal.returns-clause-stands
returns-clause-stands c = λ firsts number h from to k b.
    let g = Puts c.args.exec c.args.writes.now in
    keeps_with firsts number h from to g c.args.self.now _ c.args.self.now.ballots refl refl k
    (subst (λ l. RecordsStandFor firsts l c.on_puts.new.rec) (sym (taken h (record { from = from; to = to; body = g }) (takes_by_version h g true b refl)))
    (c.in_ok-on_puts.ensures.stands firsts h from to k.records k.dropped_is))
    (c.in_ok-on_puts.ensures.told firsts h k.told)
    (ballots_other h from to g c.args.self.now.ballots (λ z. refl) k.ballots)

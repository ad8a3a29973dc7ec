use Rattle.std.proofs.Common.{◌∙◌, ap, sym, subst, refl, cond, true, [], ◌∷◌}
use Rattle.protocol.specs.Words.{Get}
use Rattle.protocol.specs.Replica.Says.{answer, refusal}
use Rattle.mv_index.specs.Records.{StandsFor as RecordsStandFor}
use Rattle.mv_index.proofs.Taken.{taken, takes_by_version}
use Rattle.replica.proofs.BallotTurns.{ballots_other}
use Rattle.replica.proofs.ReplicaTurns.{keeps_with}
use Rattle.replica.proofs.replica.Replica.on_get.Goals as goal

pub returns-clause-answers : goal.returns-clause-answers
returns-clause-answers c = λ firsts number h k b.
    let g = Get c.args.exec c.args.key in
    ap (λ q. q ∷ []) c.into_body.ensures
    ∙ (c.in_ok-answer.ensures.answers firsts h k.records k.dropped_is
    ∙ ap (λ t. cond t (answer firsts h g) (refusal h g)) (takes_by_version h g true b refl))

pub returns-clause-stands : goal.returns-clause-stands
returns-clause-stands c = λ firsts number h from to k b.
    let g = Get c.args.exec c.args.key in
    keeps_with firsts number h from to g c.args.self.now _ c.args.self.now.ballots refl refl k
    (subst (λ l. RecordsStandFor firsts l c.on_get.new.rec) (sym (taken h (record { from = from; to = to; body = g }) (takes_by_version h g true b refl)))
    (c.in_ok-answer.ensures.stands firsts h from to k.records k.dropped_is))
    (c.in_ok-answer.ensures.told firsts h k.records k.told k.dropped_is)
    (ballots_other h from to g c.args.self.now.ballots (λ z. refl) k.ballots)

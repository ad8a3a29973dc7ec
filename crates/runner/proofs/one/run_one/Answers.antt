use Rattle.std.proofs.Common.{sym, subst}
use Rattle.hub.specs.Views.{HubView}
use Rattle.runner.specs.Growth.{HasGrown}
use Rattle.runner.proofs.one.run_one.Goals as goal

pub returns-clause-grown : goal.returns-clause-grown
returns-clause-grown g c = λ s is.
    let m = g.M.Machine.rules s.origin in
    let recalled = subst (λ (v : HubView g.row.M-Job.Denot). HasGrown m v c.run_rounds.new.hub) c.recall.ensures (c.in_ok-ended.ensures.grown s is) in
    record { picks = recalled.picks; rans = recalled.rans }

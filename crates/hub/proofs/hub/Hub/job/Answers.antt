use Rattle.std.proofs.Common.{◌≡◌, false, sym, ◌∙◌, ap}
use Rattle.hub.proofs.Jobs.{job_of_slot}
use Rattle.hub.proofs.Results.{if_ok}
use Rattle.hub.proofs.hub.Hub.job.Goals as goal

pub returns : goal.returns
returns g c = if_ok c.job.result _ _ (λ o told whole s n is here.
    let whole' : c.self.inside.broken ≡ false = ap (λ v. v.broken) c.self.view_is ∙ whole in
    let kept = c.self.invariant.3 whole' s is in
    rw (← c.self.view_is) (told s.origin _ n kept.run.replay here
    ∙ sym (job_of_slot g.N.Named.start g.M.Machine.rules (g.M.Machine.jobs c.self.inside.machine) s c.args.slot n is here))) c.job.ensures

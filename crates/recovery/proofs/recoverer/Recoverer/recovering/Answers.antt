-- What was not asked about can be recovered.
use Rattle.std.proofs.Common.{◌<◌, ◌^◌, ap, subst, sym, ◌∙◌}
use Rattle.protocol.specs.Warden.Truncation.{is_recovering}
use Rattle.recovery.specs.Recoverer.{RecoveringWarden}
use Rattle.recovery.proofs.RecovererLemmas.{unasked_can_recover}
use Rattle.recovery.proofs.recoverer.Recoverer.recovering.Goals as goal

pub returns-then-is_undecided-clause-unasked : goal.returns-then-is_undecided-clause-unasked
returns-then-is_undecided-clause-unasked c whole unasked undecided =
    unasked_can_recover c.args.self.now c.args.x
    (subst (λ (w : RecoveringWarden). w.rules.warden < 2 ^ 32) c.self.view_is c.self.invariant)
    (ap (λ (w : RecoveringWarden). is_recovering w.state c.args.x) (sym c.self.view_is) ∙ sym c.is_recovering.ensures ∙ unasked)
    undecided

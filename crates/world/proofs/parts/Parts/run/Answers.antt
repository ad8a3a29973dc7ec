use Rattle.std.proofs.Common.{◌≡◌, true, false, Some, None, sym, ap, ◌∙◌, subst}
use Rattle.std.specs.Prelude.{is_some, IfSome}
use Rattle.continuation.specs.Job.{FitsCodes}
use Rattle.coordinator.specs.Memory.{codes_of}
use Rattle.protocol.specs.Words.{Ran}
use Rattle.protocol.proofs.TestLemmas.{true_false}
use Rattle.world_rows.proofs.Enabling.{ran_when}
use Rattle.world.proofs.Happening.{has, doing}
use Rattle.world.proofs.parts.Parts.run.Goals as goal

pub job-requires : goal.job-requires
job-requires c = has c.args.self.now (Ran c.args.client) c.requires

pub unreachable-requires : goal.unreachable-requires
unreachable-requires c =
    let h = c.requires in
    let some = sym (ran_when h.loads.plan h.world c.args.client) ∙ ap is_some (doing c.args.self.now (Ran c.args.client) h) in
    let told = c.in_ok-job.ensures.pending h.loads h.world h.stands.nodes in
    let none : false ≡ true = ap is_some (sym c.in_default.is) ∙ told ∙ some in
    true_false (sym none)

pub run_job-requires-after_bounds : goal.run_job-requires-after_bounds
run_job-requires-after_bounds c =
    let h = c.requires in
    let fits = subst (λ o. IfSome o (λ j. FitsCodes (codes_of h.loads.programs) j)) c.in-Some.is (c.in_ok-job.ensures.fits h.loads h.world h.stands.nodes) in
    λ _. subst (λ codes. FitsCodes codes c.in-Some.job) (sym (c.as_slice.ensures ∙ h.stands.codes)) fits

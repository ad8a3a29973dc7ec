-- The pending job is run on the client's code.
use Rattle.std.proofs.Common.{◌∷◌, [], ◌∙◌, ap, sym, subst}
use Rattle.std.specs.Prelude.{IfSome}
use Rattle.continuation.specs.Job.{FitsCodes}
use Rattle.coordinator.specs.Memory.{codes_of}
use Rattle.client_tests.proofs.ClientLemmas.{fits, not_so, ran_on}
use Rattle.client_tests.proofs.client.Client.run.Goals as goal

pub run_job-requires-after_bounds : goal.run_job-requires-after_bounds
run_job-requires-after_bounds c κs =
    fits c.self.inside.code c.as_slice.result.now c.self.inside.coordinator c.in-Some.job (c.self.invariant (not_so _ (λ b. c.in_ok-job.ensures.broken b)))
    (c.as_slice.ensures.value ∙ c.in_ok-codes.ensures.items ∙ ap (λ x. x ∷ []) c.in_ok-share.ensures)
    (λ g k now. subst (λ o. IfSome o (λ j. FitsCodes (codes_of g.programs) j)) c.in-Some.is (c.in_ok-job.ensures.fits g k now))

pub invariant_of-self-2 : goal.invariant_of-self-2
invariant_of-self-2 c = λ whole.
    ran_on c.self.inside.code c.in_ok-done.done.code c.as_slice.result.now c.self.inside.coordinator c.ran.new.self c.in-Some.job c.in_ok-done.done.job _ _
    (c.self.invariant (not_so _ (λ b. c.in_ok-job.ensures.broken b)))
    (c.as_slice.ensures.value ∙ c.in_ok-codes.ensures.items ∙ ap (λ x. x ∷ []) c.in_ok-share.ensures)
    c.in_ok-done.ensures.code c.in_ok-done.ensures.job (sym c.in_ok-job.ensures.value ∙ c.in-Some.is) c.in_ok-ran.ensures.used

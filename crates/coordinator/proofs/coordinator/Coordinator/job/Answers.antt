-- The pending job has a program, whose code it fits.
use Rattle.std.proofs.Common.{sym, ◌∙◌}
use Rattle.coordinator.proofs.JobLemmas.{job_fits}
use Rattle.coordinator.proofs.coordinator.Coordinator.job.Goals as goal

pub returns-clause-fits : goal.returns-clause-fits
returns-clause-fits c = λ g k s.
    job_fits g k c.args.self.now.memory _ s.memory (sym c.is_awaiting.ensures ∙ c.if-not-is_awaiting.false) c.prog.ensures
    (c.in_ok-at.ensures ∙ c.job.ensures)

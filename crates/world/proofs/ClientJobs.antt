-- The pending job of a client by its number.
use Rattle.std.proofs.Common.{◌≡◌, ℕ, ◌-◌, ◌<◌, ◌≤◌, get_or, length, refl, ap, sym, arith}
use Rattle.std.proofs.lemmas.Option.{slice_get_read}
use Rattle.coordinator.specs.Memory.{pending_job}
use Rattle.coordinator.specs.declared.coordinator.Coordinator.{Coordinator}
use Rattle.world.specs.declared.clients.Clients.{Clients}
use Rattle.world.specs.Clients.{job_in, job_of}

pub the_job : (cs : Clients) (n : ℕ) (s : Coordinator) → 0 < n → n ≤ length cs.clients.items → s ≡ get_or cs.clients.items (n - 1) s →
    pending_job s.memory ≡ job_of cs n
the_job cs n s low high v = sym (ap job_in (slice_get_read cs.clients.items (length cs.clients.items) (n - 1) s refl (omega arith) v))

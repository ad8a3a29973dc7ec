-- The pending jobs of a World are fixed by its origin and its events.
use Rattle.std.proofs.Common.{◌≡◌, ℕ, cond, Option, None, refl, ap, sym, ◌∙◌}
use Rattle.protocol.specs.Words.{NodeId, Client, Replica, Warden}
use Rattle.continuation.specs.declared.segment.Job.{Job}
use Rattle.world.specs.Nodes.{has_node, job_of}
use Rattle.world.specs.NodeJobs.{has_is}
use Rattle.world.proofs.OneJob.{LoadsAlike, one_job_of}
use Rattle.net_core.specs.Machine.{History}
use Rattle.world.specs.declared.origin.Origin.{Origin}
use Rattle.world.specs.Origin.{IsOrigin, loads, world_at}
use Rattle.world.specs.declared.world.World.{World as Kept}
use Rattle.world.specs.World.{Stands, pending_at}
use Rattle.world.specs.Jobs.{pending_of}
use Rattle.world.specs.Laws.{OnePendingJob}

-- whatever shows that something is an origin
loads_alike : (o : Origin) (a b : IsOrigin o) → LoadsAlike (loads o a) (loads o b)
loads_alike o a b = record {
  plan = refl;
  programs = a.codes.own ∙ sym b.codes.own;
  codes = sym a.codes.codes_are ∙ b.codes.codes_are;
  numbers = refl;
}

module _ (k l : Kept) (o : Origin) (h : History) (s : Stands k o h) (t : Stands l o h) where
  same_client : (c : ℕ) → pending_at k.parts c ≡ pending_at l.parts c
  same_client c =
      let w = world_at o h in
      let here = has_is (loads o s.after.origin) w k.parts.nodes (Client c) s.after.world.nodes in
      let there = has_is (loads o t.after.origin) w l.parts.nodes (Client c) t.after.world.nodes in
      let job = one_job_of (loads o s.after.origin) (loads o t.after.origin) w.client k.parts.nodes.clients l.parts.nodes.clients c
      (loads_alike o s.after.origin t.after.origin) s.after.world.nodes.clients t.after.world.nodes.clients in
      ap (λ b. cond {A = Option Job} b (job_of k.parts.nodes c) None) (here ∙ sym there)
      ∙ ap (λ j. cond {A = Option Job} (has_node l.parts.nodes (Client c)) j None) job

  same_job : (n : NodeId) → pending_of k n ≡ pending_of l n
  same_job (Client c) = same_client c
  same_job (Replica r) = refl
  same_job (Warden r) = refl

pub one_pending_job : OnePendingJob
one_pending_job k l o h s t n = same_job k l o h s t n

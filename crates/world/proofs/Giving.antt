-- What giving a segment back makes of a World.
use Rattle.std.proofs.Common.{◌≡◌, ℕ, Bool, true, false, List, ◌∷◌, Option, Some, None, refl, sym, ap, ◌∙◌, subst}
use Rattle.std.specs.Prelude.{cond, ◌&&◌, nat_le, is_some, length, slice_get}
use Rattle.protocol.specs.Words.{Client, Ran}
use Rattle.protocol.specs.Client.Step.Input.{Runs}
use Rattle.protocol.specs.World.State.{World, exists, is_live, mail_limit}
use Rattle.protocol.specs.World.Events.{client_input, enabled}
use Rattle.continuation.specs.declared.segment.Job.{Job}
use Rattle.continuation.specs.Job.{Finished}
use Rattle.world.specs.Clients.{Loads}
use Rattle.world.specs.Nodes.{has_node, job_of}
use Rattle.net_core.specs.Machine.{History, Effect, Moves, Refused}
use Rattle.net_core.specs.Replay.{IsDue, IsTaken}
use Rattle.world_rows.specs.Machine.{effect_in, machine_of}
use Rattle.world_rows.proofs.Enabling.{enabled_when, ran_when}
use Rattle.world.specs.NodeJobs.{job_pending, when_is}
use Rattle.world.specs.declared.origin.Origin.{Origin}
use Rattle.world.specs.declared.parts.Parts.{Parts}
use Rattle.world.specs.declared.world.World.{World as Kept}
use Rattle.world.specs.Origin.{plan, loads, world_at}
use Rattle.world.specs.World.{IsWorld, IsReached, CanHappen, Stands, pending_at}
use Rattle.world.specs.Jobs.{pending_of, IsDoneOf}
use Rattle.world.proofs.NodeSlots.{node_is}

left_is : (t u : Bool) → (t && u) ≡ true → t ≡ true
left_is true u e = refl
left_is false u e = e

-- a segment of the pending job of a live client can be given back
pub ran_can : (l : Loads) (w : World) (s : Parts) (c : ℕ) (j : Job) → IsWorld l w s → is_live l.plan w (Client c) ≡ true → job_of s.nodes c ≡ Some j →
    is_some (enabled l.plan w (Ran c)) ≡ true
ran_can l w s c j is live job =
    let there = left_is _ _ live in
    let pending = sym (job_pending l w s.nodes c is.nodes there) ∙ ap is_some job in
    enabled_when l.plan w (Ran c) ∙ ap (λ t. t && is_some (client_input l.plan w c Runs)) live ∙ ran_when l.plan w c ∙ pending

pub done_can : (k : Kept) (c : ℕ) (j : Job) (r : IsReached k) → is_live (plan r.origin) (world_at r.origin r.history) (Client c) ≡ true → job_of k.parts.nodes c ≡ Some j →
    CanHappen k.parts (Ran c)
done_can k c j r live job = record {
  loads = loads r.origin r.stands.after.origin;
  world = world_at r.origin r.history;
  stands = r.stands.after.world;
  sound = r.stands.whole.sound;
  can = ran_can (loads r.origin r.stands.after.origin) (world_at r.origin r.history) k.parts c j r.stands.after.world live job;
}

module _ (k : Kept) (o : Origin) (h : History) (s : Stands k o h) (c : ℕ) (d : Finished) where
  -- the job of the client's number is pending where it is live
  pub due_job : (j : Job) → IsDue (machine_of (plan o)) (pending_of k (Client c)) h (Client c) j → job_of k.parts.nodes c ≡ Some j
  due_job j due = (when_is (has_node k.parts.nodes (Client c)) (job_of k.parts.nodes c) j due.job).1

  -- the segment is of the pending job of a live client
  pub taken : (f : Effect) → is_live (plan o) (world_at o h) (Client c) ≡ true → job_of k.parts.nodes c ≡ Some d.job →
      slice_get k.parts.codes d.job.prog ≡ Some d.code → effect_in (plan o) (world_at o h) (Ran c) ≡ f →
      IsTaken (machine_of (plan o)) (pending_of k (Client c)) (λ j. IsDoneOf o j d) h (Client c) f c
  taken f live job code effect = record {
    node = refl;
    job = d.job;
    due = record {
      live = live;
      job = ap (λ t. cond t (job_of k.parts.nodes c) None) (node_is (loads o s.after.origin) (world_at o h) k.parts s.after.world (Client c) ∙ left_is _ _ live) ∙ job;
    };
    is_of_job = (refl, ap (λ codes. slice_get codes d.job.prog) (s.after.origin.codes.codes_are ∙ sym s.after.world.codes) ∙ code);
    effect = effect;
  }

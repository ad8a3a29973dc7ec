-- What a machine promises of itself, of the world: how many nodes it has, which jobs are pending, and that these fit its kit.
use Rattle.std.proofs.Common.{refl, sym, ap, subst, ◌∙◌}
use Rattle.std.specs.Prelude.{◌≡◌, ℕ, Bool, true, false, cond, Option, Some, None, length, is_some, slice_get}
use Rattle.protocol.specs.Words.{NodeId, Client, Replica, Warden}
use Rattle.protocol.specs.Client.Attempts.{has_pending}
use Rattle.protocol.specs.World.State.{World, exists}
use Rattle.protocol.specs.World.Committed.{nodes as nodes_of}
use Rattle.continuation.specs.declared.segment.Job.{Job}
use Rattle.continuation.specs.Job.{FitsCodes, Finished}
use Rattle.world.specs.Nodes.{has_node, job_of}
use Rattle.world.specs.NodeJobs.{has_is}
use Rattle.menus.specs.Slots.{count_of}
use Rattle.menus.proofs.SlotsLemmas.{nodes_length}
use Rattle.net_core.specs.Machine.{History}
use Rattle.world_rows.specs.Machine.{is_pending}
use Rattle.world.specs.NodeJobs.{job_pending, job_fitting, when_is, none_some}
use Rattle.world.specs.declared.origin.Origin.{Origin}
use Rattle.world.specs.Origin.{plan, loads, world_at}
use Rattle.world.specs.declared.world.World.{World as Kept}
use Rattle.world.specs.World.{IsUsable, Stands, pending_at}
use Rattle.world.specs.Jobs.{pending_of, IsDoneOf}

module _ (k : Kept) (o : Origin) (h : History) (stands : Stands k o h) where
  has : (c : ℕ) → has_node k.parts.nodes (Client c) ≡ exists (plan o) (Client c)
  has c = has_is (loads o stands.after.origin) (world_at o h) k.parts.nodes (Client c) stands.after.world.nodes

  pending_client : (c : ℕ) (t : Bool) → exists (plan o) (Client c) ≡ t → has_pending ((world_at o h).client c).phase ≡ is_some (pending_at k.parts c)
  pending_client c true there =
      sym (job_pending (loads o stands.after.origin) (world_at o h) k.parts.nodes c stands.after.world.nodes there)
      ∙ sym (ap (λ t. is_some (cond t (job_of k.parts.nodes c) None)) (has c ∙ there))
  pending_client c false gone =
      stands.whole.sound.absent c gone ∙ sym (ap (λ t. is_some (cond t (job_of k.parts.nodes c) None)) (has c ∙ gone))

  pub pending_told : (n : NodeId) → is_pending (world_at o h) n ≡ is_some (pending_of k n)
  pending_told (Client c) = pending_client c (exists (plan o) (Client c)) refl
  pending_told (Replica r) = refl
  pending_told (Warden r) = refl

  pub jobs_fit : (n : NodeId) (j : Job) → pending_of k n ≡ Some j → FitsCodes o.kit j
  jobs_fit (Client c) j is =
      let w = when_is (has_node k.parts.nodes (Client c)) (job_of k.parts.nodes c) j is in
      subst (λ codes. FitsCodes codes j) (sym stands.after.origin.codes.codes_are)
      (job_fitting (loads o stands.after.origin) (world_at o h) k.parts.nodes c j stands.after.world.nodes (sym (has c) ∙ w.0) w.1)
  jobs_fit (Replica r) j is = none_some j is
  jobs_fit (Warden r) j is = none_some j is

  pub counted : count_of k.slots ≡ length (nodes_of (plan o))
  counted = ap count_of (sym stands.slots) ∙ sym (nodes_length k.parts.boxes.slots) ∙ ap length (sym stands.after.world.boxes.nodes)

-- what was done is of one job
pub one_job : (o : Origin) (j k : Job) (d : Finished) → IsDoneOf o j d → IsDoneOf o k d → j ≡ k
one_job o j k d a b = sym a.0 ∙ b.0

-- one that stands for something may be used
pub in_use : (k : Kept) (o : Origin) (h : History) → Stands k o h → IsUsable k
in_use k o h stands = record { some_node = stands.some_node; reached = λ unbroken. record { origin = o; history = h; stands = stands } }

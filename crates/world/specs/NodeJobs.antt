-- Which jobs are pending where clients stand for those of a world, and that they fit the codes of the programs.
use Rattle.std.proofs.Common.{◌≡◌, ℕ, suc, ◌-◌, ◌<◌, ◌≤◌, Bool, true, false, List, [], ◌∷◌, Option, Some, None, length, refl, sym, ap, ◌∙◌, subst, arith}
use Rattle.std.specs.Prelude.{zero, nat_lt, cond, is_some, slice_get}
use Rattle.protocol.specs.Words.{NodeId, Client, Replica, Warden}
use Rattle.protocol.specs.Client.Attempts.{has_pending}
use Rattle.protocol.specs.World.State.{World, exists, in_range}
use Rattle.protocol.proofs.TestLemmas.{and_left, and_right, le_is, lt_is}
use Rattle.continuation.specs.declared.segment.Job.{Job}
use Rattle.continuation.specs.Job.{FitsCodes}
use Rattle.coordinator.specs.Memory.{codes_of, pending_job}
use Rattle.coordinator.specs.declared.coordinator.Coordinator.{Coordinator}
use Rattle.coordinator.proofs.JobLemmas.{awaits_pending, awaits_some, job_fits, pending_says}
use Rattle.world.specs.Clients.{Loads, IsClient, job_in, given}
use Rattle.world.specs.Nodes.{AreNodes, has_node, job_of}
use Rattle.world.specs.declared.nodes.Nodes.{Nodes}

-- a node that is there has one of the numbers from 1
pub ranged : (k n : ℕ) → in_range k n ≡ true → (0 < k) × (k ≤ n)
ranged k n e = (lt_is 0 k (and_left _ _ e), le_is k n (and_right (nat_lt 0 k) _ e))

-- the nodes that are there are those of the plan
pub has_is : (l : Loads) (w : World) (s : Nodes) (node : NodeId) → AreNodes l w s → has_node s node ≡ exists l.plan node
has_is l w s (Client c) are = ap (in_range c) are.clients.count
has_is l w s (Replica r) are = ap (in_range r) are.replicas.count
has_is l w s (Warden k) are = ap (in_range k) are.wardens.count

pub get_some : {A : Type 0} (xs : List A) (i : ℕ) → i < length xs → (x : A) × (slice_get xs i ≡ Some x)
get_some [] i less = absurd (let f : ⊥ = omega (arith, less) in f)
get_some (x ∷ xs) zero less = (x, refl)
get_some (x ∷ xs) (suc i) less = get_some xs i (omega (arith, less))

-- a client that is there
record HasClient (l : Loads) (w : World) (s : Nodes) (c : ℕ) : Type 0 where
  client : Coordinator
  there : slice_get s.clients.clients.items (c - 1) ≡ Some client
  stands : IsClient l c (w.client c) client

client_at : (l : Loads) (w : World) (s : Nodes) (c : ℕ) → AreNodes l w s → exists l.plan (Client c) ≡ true → HasClient l w s c
client_at l w s c are there =
    let n = ranged c (length l.plan.clients) there in
    let low = n.0 in
    let high = n.1 in
    let count = are.clients.count in
    let less : c - 1 < length s.clients.clients.items = omega (arith, low, high, count) in
    let get = get_some s.clients.clients.items (c - 1) less in
    let one : suc (c - 1) ≡ c = omega (arith, low) in
    record { client = get.0; there = get.1; stands = subst (λ d. IsClient l d (w.client d) get.0) one (are.clients.each (c - 1) get.0 get.1) }

-- a client has a job where the definitions have one pending
pub job_pending : (l : Loads) (w : World) (s : Nodes) (c : ℕ) → AreNodes l w s → exists l.plan (Client c) ≡ true → is_some (job_of s c) ≡ has_pending (w.client c).phase
job_pending l w s c are there =
    let h = client_at l w s c are there in
    ap (λ o. is_some (job_in o)) h.there ∙ sym (awaits_some h.client.memory) ∙ awaits_pending (given l c) (w.client c) h.client.memory h.stands.memory

-- and it fits the codes of the programs
pub job_fitting : (l : Loads) (w : World) (s : Nodes) (c : ℕ) (j : Job) → AreNodes l w s → exists l.plan (Client c) ≡ true → job_of s c ≡ Some j → FitsCodes (codes_of l.programs) j
job_fitting l w s c j are there is =
    let h = client_at l w s c are there in
    let says = pending_says h.client.memory j (sym (ap job_in h.there) ∙ is) in
    job_fits (given l c) (w.client c) h.client.memory j h.stands.memory says.awaits says.prog says.at

-- where there is a test for it
pub when_is : {A : Type 0} (t : Bool) (o : Option A) (a : A) → cond t o None ≡ Some a → (t ≡ true) × (o ≡ Some a)
when_is true o a e = (refl, e)
when_is false o a e = absurd (cc e)

-- nothing is not something
pub none_some : {A X : Type 0} (a : A) → None ≡ Some a → X
none_some a e = absurd (cc e)

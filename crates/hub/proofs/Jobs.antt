-- The pending jobs by slots.
use Rattle.std.proofs.Common.{◌≡◌, ℕ, suc, zero, List, [], ◌∷◌, map, Option, Some, None, ◌∙◌, ap}
use Rattle.std.specs.List.{slice_get}
use Rattle.morty_base.specs.declared.names.NodeId.{NodeId}
use Rattle.net_core.specs.Machine.{Machine}
use Rattle.hub.specs.Starts.{Start}
use Rattle.hub.specs.Views.{job_in, nodes_of}

job_in_map : {J : Type 0} (jobs : NodeId → Option J) (nodes : List NodeId) (slot : ℕ) (n : NodeId) → slice_get nodes slot ≡ Some n →
    job_in (map jobs nodes) slot ≡ jobs n
job_in_map jobs [] slot n here = absurd (let t : ◌≡◌ {A = Option NodeId} None (Some n) = here in cc)
job_in_map jobs (k ∷ nodes) zero n here =
    let t : ◌≡◌ {A = Option NodeId} (Some k) (Some n) = here in
    let same : k ≡ n = cc in
    ap jobs same
job_in_map jobs (k ∷ nodes) (suc slot) n here = job_in_map jobs nodes slot n here

-- the pending job of a slot is that of its node
pub job_of_slot : {O J : Type 0} (start : Option (Start O)) (rules : O → Machine) (jobs : NodeId → Option J) (s : Start O) (slot : ℕ) (n : NodeId) →
    start ≡ Some s → slice_get (rules s.origin).nodes slot ≡ Some n → job_in (map jobs (nodes_of start rules)) slot ≡ jobs n
job_of_slot start rules jobs s slot n is here = ap (λ o. job_in (map jobs (nodes_of o rules)) slot) is ∙ job_in_map jobs (rules s.origin).nodes slot n here

-- where each node's is as it was, so are all
pub same_jobs : {J : Type 0} (nodes : List NodeId) (old new : NodeId → Option J) → ((n : NodeId) → new n ≡ old n) → map new nodes ≡ map old nodes
same_jobs nodes old new same = λ i. map (λ n. same n i) nodes

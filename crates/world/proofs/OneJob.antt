-- The pending jobs of clients are fixed by what these are given and by what the definitions remember of them.
use Rattle.std.proofs.Common.{◌≡◌, ℕ, suc, ◌-◌, ◌<◌, ◌≤◌, List, [], length, map, get_or, Some, None, ap, sym, ◌∙◌, ◌⊎◌, inl, inr, arith}
use Rattle.std.specs.List.{slice_get}
use Rattle.std.proofs.lemmas.Option.{slice_get_cases}
use Rattle.protocol.specs.Client.State.{ClientState}
use Rattle.protocol.specs.World.State.{Plan, rules}
use Rattle.coordinator.specs.Execution.{Loaded}
use Rattle.coordinator.specs.declared.coordinator.Coordinator.{Coordinator}
use Rattle.coordinator.specs.Memory.{codes_of}
use Rattle.coordinator.proofs.OneJob.{GivenAlike, one_pending_job}
use Rattle.world.specs.declared.clients.Clients.{Clients}
use Rattle.world.specs.Clients.{Loads, AreClients, given, job_in, job_of}

-- the same plan, programs and codes
pub record LoadsAlike (l r : Loads) : Type 0 where
  pub plan : l.plan ≡ r.plan
  pub programs : map (λ (x : Loaded). x.program) l.programs ≡ map (λ (x : Loaded). x.program) r.programs
  pub codes : codes_of l.programs ≡ codes_of r.programs
  pub numbers : l.numbers ≡ r.numbers

given_alike : (l r : Loads) (c : ℕ) → LoadsAlike l r → GivenAlike (given l c) (given r c)
given_alike l r c a = record {
  rules = ap (λ (p : Plan). rules p c) a.plan;
  programs = a.programs;
  codes = a.codes;
  numbers = ap (λ ns. get_or ns (c - 1) []) a.numbers;
}

-- what stands at a place of a list
abbrev At : List Coordinator → ℕ → Type 0
At xs i = ((s : Coordinator) × (i < length xs) × (slice_get xs i ≡ Some s) × (get_or xs i s ≡ s)) ⊎ ((length xs ≤ i) × (slice_get xs i ≡ None))

pub one_job_of : (l r : Loads) (states : ℕ → ClientState) (cs ds : Clients) (c : ℕ) → LoadsAlike l r → AreClients l states cs → AreClients r states ds →
    job_of cs c ≡ job_of ds c
one_job_of l r states cs ds c alike a b = go (slice_get_cases cs.clients.items (c - 1)).1 (slice_get_cases ds.clients.items (c - 1)).1
  where
    counts : length cs.clients.items ≡ length ds.clients.items
    counts = a.count ∙ ap (λ (p : Plan). length p.clients) alike.plan ∙ sym b.count

    go : At cs.clients.items (c - 1) → At ds.clients.items (c - 1) → job_of cs c ≡ job_of ds c
    go (inl p) (inl q) =
        let i = c - 1 in
        let n = suc i in
        let s = a.each i p.0 p.2 in
        let t = b.each i q.0 q.2 in
        ap job_in p.2
        ∙ one_pending_job (given l n) (given r n) (given_alike l r n alike) (states n) p.0.memory q.0.memory s.memory t.memory
        ∙ sym (ap job_in q.2)
    go (inl p) (inr q) = absurd (let f : ⊥ = omega (arith, p.1, q.0, counts) in f)
    go (inr p) (inl q) = absurd (let f : ⊥ = omega (arith, p.0, q.1, counts) in f)
    go (inr p) (inr q) = ap job_in p.1 ∙ sym (ap job_in q.1)

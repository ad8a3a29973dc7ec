-- The pending job of a client: its program is one of the list, and its place is one of that program's code.
use Rattle.std.proofs.Common.{◌≡◌, ℕ, ◌-◌, ◌<◌, ◌≤◌, Bool, true, false, cond, List, length, get_or, Option, Some, None, refl, ap, sym, subst, ◌∙◌, ◌⊎◌, inl, inr, arith}
use Rattle.std.specs.Prelude.{◌==◌, is_some, is_none, slice_get, option_map}
use Rattle.std.proofs.lemmas.Bool.Decides.{nat_tests}
use Rattle.std.proofs.lemmas.Option.{slice_get-map, slice_get_cases}
use Rattle.flat_code.specs.Operation.{Flat}
use Rattle.continuation.specs.declared.segment.Job.{Job}
use Rattle.continuation.specs.Job.{FitsCode, FitsCodes}
use Rattle.exec_log.proofs.LastJobs.{last_fits}
use Rattle.protocol.specs.Client.State.{ClientState}
use Rattle.protocol.specs.Client.Attempts.{has_pending}
use Rattle.coordinator.specs.Execution as execution
use Rattle.coordinator.specs.Execution.{Loaded, is_pending}
use Rattle.coordinator.specs.declared.execution.Execution.{Execution}
use Rattle.coordinator.specs.declared.memory.Txn2.{Txn2}
use Rattle.coordinator.specs.declared.memory.Course.{Course}
use Rattle.coordinator.specs.declared.memory.Stage.{Stage}
use Rattle.coordinator.specs.declared.memory.Stage.TheVariants as stage
use Rattle.coordinator.specs.declared.memory.Memory.{Memory}
use Rattle.coordinator.specs.Memory.{Given, HasBegun, StandsFor, awaits, awaits_at, codes_of, current, is_awaiting, pending_job, phase_of, prog_of, program_of}

pending_at : (x : Stage) (e : Execution) → awaits_at x (is_pending e) ≡ has_pending (phase_of x e)
pending_at stage.Between e = refl
pending_at (stage.Running given) e = refl
pending_at (stage.Prepared b) e = refl

-- a job is pending where the definitions have one pending
pub awaits_pending : (g : Given) (c : ClientState) (m : Memory) → StandsFor g c m → is_awaiting m ≡ has_pending c.phase
awaits_pending g c m s = pending_at m.stage m.execution ∙ ap has_pending (sym s.phase)

some_when : {A : Type 0} (b : Bool) (a : A) → b ≡ is_some (cond b (Some a) None)
some_when true a = refl
some_when false a = refl

pub awaits_some : (m : Memory) → is_awaiting m ≡ is_some (pending_job m)
awaits_some m = some_when (is_awaiting m) _

begun_at : (x : Stage) (k : Course) (pending : Bool) → awaits_at x pending ≡ true → HasBegun x k → 0 < k.begun
begun_at stage.Between k pending e h = absurd (cc)
begun_at (stage.Running given) k pending e h = h
begun_at (stage.Prepared b) k pending e h = absurd (cc)

pub pending_so : (x : Stage) (pending : Bool) → awaits_at x pending ≡ true → pending ≡ true
pending_so stage.Between pending e = absurd (cc)
pending_so (stage.Running given) pending e = e
pending_so (stage.Prepared b) pending e = absurd (cc)

pub none_is : {A : Type 0} (o : Option A) → is_none o ≡ true → o ≡ None
none_is None e = refl
none_is (Some a) e = absurd (cc)

the_program : (programs : List Loaded) (o : Option Txn2) (t : Txn2) (l : Loaded) → o ≡ Some t → slice_get programs t.prog ≡ Some l →
    (program_of programs o ≡ Some l) × (slice_get programs (prog_of o) ≡ Some l)
the_program programs o t l e f = (ap (program_of programs) e ∙ f, ap (λ x. slice_get programs (prog_of x)) e ∙ f)

-- the program of the last transaction begun is the one of its number
pub record HasProgram (g : Given) (m : Memory) : Type 0 where
  pub loaded : Loaded
  pub now : current g.programs m.plan m.course.begun ≡ Some loaded
  pub there : slice_get g.programs (prog_of (slice_get m.plan.txns (m.course.begun - 1))) ≡ Some loaded

-- where a job is pending it has one
pub has_program : (g : Given) (c : ClientState) (m : Memory) → StandsFor g c m → is_awaiting m ≡ true → HasProgram g m
has_program g c m s waits = case (slice_get_cases m.plan.txns (m.course.begun - 1)).1
  where
    some : 0 < m.course.begun
    some = begun_at m.stage m.course (is_pending m.execution) waits s.started

    case : ((t : Txn2) × (m.course.begun - 1 < length m.plan.txns) × (slice_get m.plan.txns (m.course.begun - 1) ≡ Some t)
        × (get_or m.plan.txns (m.course.begun - 1) t ≡ t)) ⊎ ((length m.plan.txns ≤ m.course.begun - 1) × (slice_get m.plan.txns (m.course.begun - 1) ≡ None)) → HasProgram g m
    case (inl h) =
        let named = s.programs.there (m.course.begun - 1) h.0 h.2 in
        let both = the_program g.programs (slice_get m.plan.txns (m.course.begun - 1)) h.0 named.0 h.2 named.1 in
        record { loaded = named.0; now = both.0; there = both.1 }
    case (inr h) = absurd (let most = s.within.begun in omega (arith, some, h.0, most))

pub code_there : (programs : List Loaded) (n : ℕ) (l : Loaded) → slice_get programs n ≡ Some l → slice_get (codes_of programs) n ≡ Some l.code
code_there programs n l e = slice_get-map (λ (x : Loaded). x.code) programs n ∙ ap (option_map (λ (x : Loaded). x.code)) e

-- a pending job fits the codes of the programs
pub job_fits : (g : Given) (c : ClientState) (m : Memory) (j : Job) → StandsFor g c m → is_awaiting m ≡ true →
    j.prog ≡ prog_of (slice_get m.plan.txns (m.course.begun - 1)) →
    j.at ≡ m.execution.job → FitsCodes (codes_of g.programs) j
job_fits g c m j s waits prog at =
    let p = has_program g c m s waits in
    let runs = subst (λ o. execution.StandsFor o m.execution) p.now s.execution in
    let none = none_is m.execution.log.next (pending_so m.stage (is_pending m.execution) waits) in
    record {
      code = p.loaded.code;
      there = code_there g.programs j.prog p.loaded (ap (slice_get g.programs) prog ∙ p.there);
      fits = subst (FitsCode p.loaded.code) (sym at)
          (last_fits p.loaded.code p.loaded.program m.execution.log m.execution.job p.loaded.is_code (runs.follows.job none));
    }

-- what the pending job says of the memory
pub record Pending (m : Memory) (j : Job) : Type 0 where
  pub awaits : is_awaiting m ≡ true
  pub prog : j.prog ≡ prog_of (slice_get m.plan.txns (m.course.begun - 1))
  pub serial : j.serial ≡ m.course.serial
  pub at : j.at ≡ m.execution.job

pub pending_says : (m : Memory) (j : Job) → pending_job m ≡ Some j → Pending m j
pending_says m j = go (is_awaiting m) refl
  where
    go : (b : Bool) → is_awaiting m ≡ b →
        cond b
        (Some (record { client = m.plan.client; prog = prog_of (slice_get m.plan.txns (m.course.begun - 1)); serial = m.course.serial; at = m.execution.job }))
        None ≡ Some j → Pending m j
    go true is e = record { awaits = is; prog = cc; serial = cc; at = cc }
    go false is e = absurd (cc)

same_number : (n : ℕ) → (n == n) ≡ true
same_number n = grind (arith, nat_tests)

-- it is awaited by its serial
pub pending_awaits : (m : Memory) (j : Job) → pending_job m ≡ Some j → awaits m j.serial ≡ true
pending_awaits m j is = let p = pending_says m j is in rw (p.awaits, p.serial) (same_number m.course.serial)

-- the code of the pending job's number is that of the current program
pub code_is : (g : Given) (c : ClientState) (m : Memory) (j : Job) (code : Flat) → StandsFor g c m → pending_job m ≡ Some j →
    slice_get (codes_of g.programs) j.prog ≡ Some code → (l : Loaded) × (current g.programs m.plan m.course.begun ≡ Some l) × (code ≡ l.code)
code_is g c m j code s is there =
    let says = pending_says m j is in
    let p = has_program g c m s says.awaits in
    let prog = says.prog in
    let named = code_there g.programs j.prog p.loaded (ap (slice_get g.programs) prog ∙ p.there) in
    let same : Some code ≡ Some p.loaded.code = sym there ∙ named in
    (p.loaded, p.now, cc)

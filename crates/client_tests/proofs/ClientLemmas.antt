-- A client runs its one program from one call to the next.
use Rattle.std.proofs.Common.{◌≡◌, ℕ, ◌≤◌, zero, suc, Bool, true, false, List, [], ◌∷◌, map, Some, refl, ap, sym, subst, ◌∙◌}
use Rattle.std.specs.Prelude.{IsTrue, slice_get}
use Rattle.std.specs.Bool.{then_some}
use Rattle.flat_code.specs.Operation.{Flat}
use Rattle.flat_code.specs.Does.{IsCodeOf}
use Rattle.txn_lang.specs.Program.{Program}
use Rattle.continuation.specs.declared.segment.Job.{Job}
use Rattle.continuation.specs.Job.{FitsCodes}
use Rattle.protocol.specs.Words.{NodeId, Body, Envelope}
use Rattle.protocol.specs.Client.State as protocol
use Rattle.protocol.specs.Client.State.{ClientState, Turn, fresh_client}
use Rattle.protocol.specs.Client.State.Phase.{Running}
use Rattle.protocol.specs.Client.Attempts.{can_go, go, ran}
use Rattle.protocol.specs.Client.Step.{client_step, comes, on_ran}
use Rattle.protocol.specs.Client.Step.Input.{Comes, Goes, Runs as RunsInput}
use Rattle.coordinator.specs.Execution.{Loaded, is_pending}
use Rattle.coordinator.specs.declared.memory.Txn2.{Txn2}
use Rattle.coordinator.specs.declared.memory.Stage.{Stage}
use Rattle.coordinator.specs.declared.memory.Stage.TheVariants as stage
use Rattle.coordinator.specs.declared.memory.Memory.{Memory}
use Rattle.coordinator.specs.declared.memory.Plan.{Plan}
use Rattle.coordinator.specs.declared.coordinator.Coordinator.{Coordinator}
use Rattle.coordinator.specs.Memory.{Given, HavePrograms, NamePrograms, awaits, awaits_at, codes_of, pending_job, phase_of, rules_of}
use Rattle.coordinator.specs.Coordinator.{Does, StandsFor}
use Rattle.coordinator.proofs.JobLemmas.{pending_awaits, pending_says}
use Rattle.client_tests.specs.Client.{Runs}

-- a client of one program
abbrev pub given_of : protocol.Rules → Loaded → Given
given_of rules l = record { rules = rules; programs = l ∷ []; numbers = 0 ∷ [] }

pub not_so : (b : Bool) → (IsTrue b → false ≡ true) → b ≡ false
not_so true h = sym (h refl)
not_so false h = refl

-- a transaction that is there starts within the limit
pub starts_within : (t : Txn2) (n : ℕ) → t.at ≤ n → (i : ℕ) (u : Txn2) → slice_get (t ∷ []) i ≡ Some u → u.at ≤ n
starts_within t n h zero u is = let same : t ≡ u = cc in subst (λ (x : Txn2). x.at ≤ n) same h
starts_within t n h (suc i) u is = absurd (cc)

-- a transaction names the one program
one_program : (l : Loaded) (t : Txn2) → t.prog ≡ 0 → HavePrograms (l ∷ []) (t ∷ [])
one_program l t first zero u is = let same : t ≡ u = cc in (l, ap (slice_get (l ∷ [])) (ap (λ (x : Txn2). x.prog) (sym same) ∙ first))
one_program l t first (suc i) u is = absurd (cc)

-- a client that has begun nothing
pub started : (code : Flat) (p : Program) (s : Coordinator) (plan : Plan) (t : Txn2) → IsCodeOf code p → plan.txns ≡ t ∷ [] → t.prog ≡ 0 →
    ((g : Given) → g.rules ≡ rules_of g.programs plan → NamePrograms g plan.txns → StandsFor g fresh_client s) → Runs code s
started code p s plan t is one first stands =
    let l : Loaded = record { program = p; code = code; is_code = is } in
    record {
      loaded = l;
      runs = refl;
      rules = rules_of (l ∷ []) plan;
      state = fresh_client;
      stands = stands (given_of (rules_of (l ∷ []) plan) l) refl (record {
        there = subst (HavePrograms (l ∷ [])) (sym one) (one_program l t first);
        numbers = ap (map (λ (x : Txn2). x.prog)) one ∙ ap (λ n. n ∷ []) first;
      });
    }

-- an attempt begins
pub went : (code : Flat) (s s' : Coordinator) → Runs code s → ((g : Given) (c : ClientState) → StandsFor g c s → true ≡ can_go g.rules c) →
    ((g : Given) (c : ClientState) (t : Turn) → StandsFor g c s → client_step g.rules c Goes ≡ Some t → StandsFor g t.state s') → Runs code s'
unfolding client_step
went code s s' r can goes =
    let g = given_of r.rules r.loaded in
    record {
      loaded = r.loaded;
      runs = r.runs;
      rules = r.rules;
      state = (go r.rules r.state).state;
      stands = goes g r.state (go r.rules r.state) r.stands (ap (λ b. then_some b (go r.rules r.state)) (sym (can g r.state r.stands)));
    }

-- an envelope comes
pub came : (code : Flat) (s s' : Coordinator) (from : NodeId) (b : Body) (before after : List Envelope) → Runs code s →
    ((g : Given) (c : ClientState) (t : Turn) → StandsFor g c s → client_step g.rules c (Comes from b) ≡ Some t → Does g t s' before after) → Runs code s'
unfolding client_step
came code s s' from b before after r turn =
    let t = comes r.rules r.state r.state.phase from b in
    record {
      loaded = r.loaded;
      runs = r.runs;
      rules = r.rules;
      state = t.state;
      stands = (turn (given_of r.rules r.loaded) r.state t r.stands refl).state;
    }

-- the pending job fits the code
pub fits : (code : Flat) (codes : List Flat) (s : Coordinator) (j : Job) → Runs code s → codes ≡ code ∷ [] →
    ((g : Given) (c : ClientState) → StandsFor g c s → FitsCodes (codes_of g.programs) j) → FitsCodes codes j
fits code codes s j r is fit = subst (λ cs. FitsCodes cs j) (ap (λ x. x ∷ []) r.runs ∙ sym is) (fit (given_of r.rules r.loaded) r.state r.stands)

-- where a job is pending, the client runs
running_there : (m : Memory) (c : ClientState) (x : Stage) → c.phase ≡ phase_of x m.execution → awaits_at x (is_pending m.execution) ≡ true →
    (given : Bool) × (c.phase ≡ Running true given)
running_there m c stage.Between e h = absurd (cc)
running_there m c (stage.Running given) e h = (given, e ∙ ap (λ b. Running b given) h)
running_there m c (stage.Prepared b) e h = absurd (cc)

-- the pending job is run on the code
pub ran_on : (code ran_code : Flat) (codes : List Flat) (s s' : Coordinator) (j done : Job) (before after : List Envelope) → Runs code s → codes ≡ code ∷ [] →
    slice_get codes j.prog ≡ Some ran_code → done ≡ j → pending_job s.memory ≡ Some j →
    (awaits s.memory done.serial ≡ true → (g : Given) (c : ClientState) (t : Turn) → StandsFor g c s → client_step g.rules c RunsInput ≡ Some t →
    slice_get (codes_of g.programs) done.prog ≡ Some ran_code → Does g t s' before after) → Runs code s'
unfolding client_step on_ran
ran_on code ran_code codes s s' j done before after r is there same pending used =
    let m = s.memory in
    let pending_done : pending_job m ≡ Some done = pending ∙ ap Some (sym same) in
    let run = running_there m r.state m.stage r.stands.memory.phase (pending_says m done pending_done).awaits in
    let t = ran r.rules r.state run.0 in
    let named : slice_get (r.loaded.code ∷ []) done.prog ≡ Some ran_code =
    ap (λ cs. slice_get cs done.prog) (ap (λ x. x ∷ []) r.runs ∙ sym is) ∙ ap (λ (x : Job). slice_get codes x.prog) same ∙ there in
    record {
      loaded = r.loaded;
      runs = r.runs;
      rules = r.rules;
      state = t.state;
      stands = (used (pending_awaits m done pending_done) (given_of r.rules r.loaded) r.state t r.stands (ap (on_ran r.rules r.state) run.1) named).state;
    }

-- nothing is asked of a broken one
pub broken_is_free : {A : Type 0} (b : Bool) → IsTrue b → b ≡ false → A
broken_is_free true h e = absurd (cc)
broken_is_free false h e = absurd (cc (h))

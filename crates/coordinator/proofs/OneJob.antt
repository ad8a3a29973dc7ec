-- The pending job of a client is fixed by what it is given and by what the definitions remember of it.
use Rattle.std.proofs.Common.{◌≡◌, ℕ, ◌-◌, Bool, true, false, cond, List, map, Option, Some, None, refl, ap, sym, subst, ◌∙◌}
use Rattle.std.specs.Prelude.{slice_get, option_map, unwrap_or}
use Rattle.std.proofs.lemmas.Option.{slice_get-map}
use Rattle.continuation.specs.declared.segment.Job.{Job}
use Rattle.exec_log.specs.Log.{answers_of as log_answers}
use Rattle.exec_log.specs.Standing.{IsLastJob}
use Rattle.exec_log.proofs.OneJob.{one_last_job}
use Rattle.protocol.specs.Client.State as protocol
use Rattle.protocol.specs.Client.State.{ClientState, values}
use Rattle.coordinator.specs.Execution as execution
use Rattle.coordinator.specs.Execution.{Loaded, is_pending}
use Rattle.coordinator.proofs.AnswersLemmas.{values_with}
use Rattle.coordinator.specs.declared.memory.Txn2.{Txn2}
use Rattle.coordinator.specs.declared.memory.Course.{Course}
use Rattle.coordinator.specs.declared.memory.Memory.{Memory}
use Rattle.coordinator.specs.Memory.{Given, StandsFor, codes_of, is_awaiting, pending_job, prog_of}
use Rattle.coordinator.proofs.JobLemmas.{HasProgram, awaits_pending, code_there, has_program, none_is, pending_so}

-- two clients are given the same rules, programs and codes
pub record GivenAlike (g h : Given) : Type 0 where
  pub rules : g.rules ≡ h.rules
  pub programs : map (λ (l : Loaded). l.program) g.programs ≡ map (λ (l : Loaded). l.program) h.programs
  pub codes : codes_of g.programs ≡ codes_of h.programs
  pub numbers : g.numbers ≡ h.numbers

number_in : (o : Option Txn2) → prog_of o ≡ unwrap_or (option_map (λ (t : Txn2). t.prog) o) 0
number_in None = refl
number_in (Some t) = refl

-- the number of the last program is the one that is given
number_is : (g : Given) (c : ClientState) (m : Memory) → StandsFor g c m →
    prog_of (slice_get m.plan.txns (m.course.begun - 1)) ≡ unwrap_or (slice_get g.numbers (c.begun - 1)) 0
number_is g c m s =
    number_in (slice_get m.plan.txns (m.course.begun - 1))
    ∙ ap (λ o. unwrap_or o 0) (sym (slice_get-map (λ (t : Txn2). t.prog) m.plan.txns (m.course.begun - 1)))
    ∙ ap (λ ns. unwrap_or (slice_get ns (m.course.begun - 1)) 0) s.programs.numbers
    ∙ ap (λ (k : Course). unwrap_or (slice_get g.numbers (k.begun - 1)) 0) (sym s.course)

-- so are the answers to the reads of its log
answers_are : (g : Given) (c : ClientState) (m : Memory) → StandsFor g c m → log_answers m.execution.log ≡ values c.answers
answers_are g c m s = sym (values_with m.execution.log.reads m.execution.nexts) ∙ ap values (sym s.answers)

program_there : (programs : List Loaded) (n : ℕ) (l : Loaded) → slice_get programs n ≡ Some l →
    slice_get (map (λ (x : Loaded). x.program) programs) n ≡ Some l.program
program_there programs n l e = slice_get-map (λ (x : Loaded). x.program) programs n ∙ ap (option_map (λ (x : Loaded). x.program)) e

same_at : {A : Type 0} (xs ys : List A) (n k : ℕ) (x y : A) → xs ≡ ys → n ≡ k → slice_get xs n ≡ Some x → slice_get ys k ≡ Some y → x ≡ y
same_at xs ys n k x y same is here there =
    let both : Some x ≡ Some y = sym here ∙ ap (λ zs. slice_get zs n) same ∙ ap (slice_get ys) is ∙ there in
    cc

abbrev job_now : Memory → Job
job_now m =
    record { client = m.plan.client; prog = prog_of (slice_get m.plan.txns (m.course.begun - 1)); serial = m.course.serial; at = m.execution.job }

last_job : (g : Given) (c : ClientState) (m : Memory) (s : StandsFor g c m) (waits : is_awaiting m ≡ true) →
    (p : HasProgram g m) → IsLastJob p.loaded.code p.loaded.program m.execution.log m.execution.job
last_job g c m s waits p =
    let runs = subst (λ o. execution.StandsFor o m.execution) p.now s.execution in
    runs.follows.job (none_is m.execution.log.next (pending_so m.stage (is_pending m.execution) waits))

module _ (g h : Given) (alike : GivenAlike g h) (c : ClientState) (m m' : Memory) (s : StandsFor g c m) (s' : StandsFor h c m') where
  same_number : prog_of (slice_get m.plan.txns (m.course.begun - 1)) ≡ prog_of (slice_get m'.plan.txns (m'.course.begun - 1))
  same_number = number_is g c m s ∙ ap (λ ns. unwrap_or (slice_get ns (c.begun - 1)) 0) alike.numbers ∙ sym (number_is h c m' s')

  same_place : is_awaiting m ≡ true → is_awaiting m' ≡ true → m.execution.job ≡ m'.execution.job
  same_place waits waits' =
      let p = has_program g c m s waits in
      let q = has_program h c m' s' waits' in
      let n = prog_of (slice_get m.plan.txns (m.course.begun - 1)) in
      let k = prog_of (slice_get m'.plan.txns (m'.course.begun - 1)) in
      let code = same_at (codes_of g.programs) (codes_of h.programs) n k p.loaded.code q.loaded.code alike.codes same_number
      (code_there g.programs n p.loaded p.there) (code_there h.programs k q.loaded q.there) in
      let program = same_at (map (λ (l : Loaded). l.program) g.programs) (map (λ (l : Loaded). l.program) h.programs) n k
      p.loaded.program q.loaded.program alike.programs same_number
      (program_there g.programs n p.loaded p.there) (program_there h.programs k q.loaded q.there) in
      let last = last_job h c m' s' waits' q in
      one_last_job p.loaded.code p.loaded.program m.execution.log m'.execution.log m.execution.job m'.execution.job
      (answers_are g c m s ∙ sym (answers_are h c m' s')) (last_job g c m s waits p)
      (subst (λ x. IsLastJob x p.loaded.program m'.execution.log m'.execution.job) (sym code)
      (subst (λ x. IsLastJob q.loaded.code x m'.execution.log m'.execution.job) (sym program) last))

  same_job : is_awaiting m ≡ true → is_awaiting m' ≡ true → job_now m ≡ job_now m'
  same_job waits waits' =
      let client : m.plan.client ≡ m'.plan.client = ap (λ (r : protocol.Rules). r.client) (sym s.rules ∙ alike.rules ∙ s'.rules) in
      let serial : m.course.serial ≡ m'.course.serial = ap (λ (k : Course). k.serial) (sym s.course ∙ s'.course) in
      ap (λ x. record (job_now m) { client = x }) client
      ∙ ap (λ x. record { client = m'.plan.client; prog = x; serial = m.course.serial; at = m.execution.job }) same_number
      ∙ ap (λ x. record (job_now m') { serial = x; at = m.execution.job }) serial
      ∙ ap (λ x. record (job_now m') { at = x }) (same_place waits waits')

  go : (b : Bool) → is_awaiting m ≡ b → is_awaiting m' ≡ b → pending_job m ≡ pending_job m'
  go true e f = ap (λ b. cond b (Some (job_now m)) None) e ∙ ap Some (same_job e f) ∙ sym (ap (λ b. cond b (Some (job_now m')) None) f)
  go false e f = ap (λ b. cond b (Some (job_now m)) None) e ∙ sym (ap (λ b. cond b (Some (job_now m')) None) f)

  pub one_pending_job : pending_job m ≡ pending_job m'
  one_pending_job = go (is_awaiting m) refl (awaits_pending h c m' s' ∙ sym (awaits_pending g c m s))

-- What a client does once a segment was given back, and when it prepares.
use Rattle.std.proofs.Common.{◌≡◌, min, Bool, true, false, not, List, [], ◌∷◌, ◌++◌, length, Option, Some, None, refl, ap, sym, subst, ◌∙◌, ℤ}
use Rattle.std.specs.Prelude.{IsSome, is_none, is_some, nat_lt, ◌&&◌, ◌||◌}
use Rattle.std.specs.List.{list_all}
use Rattle.continuation.specs.declared.segment.Next.{Next}
use Rattle.continuation.specs.declared.segment.Seg.{Seg}
use Rattle.continuation.specs.Job.{IsJobRun}
use Rattle.exec_log.specs.Log.{asked_by, ending_by}
use Rattle.protocol.specs.Words.{Ending, Content, Body, Puts, Prepare}
use Rattle.protocol.specs.Lists.{one_when}
use Rattle.protocol.specs.Client.State as protocol
use Rattle.protocol.specs.Client.State.{Answer, ClientState, Phase, Turn, Walk, content, is_done, may_put, reads_of, values, walk, walk_at}
use Rattle.protocol.specs.Client.State.Phase.{Between, Running, Prepared}
use Rattle.protocol.specs.Client.Attempts.{front, is_between, prepare_if_ready, prepare_when, question, ran, wrote}
use Rattle.coordinator.specs.Execution as execution
use Rattle.coordinator.specs.Execution.{Loaded, answers_of, content_of, is_pending, keys_of, shown, walk_of}
use Rattle.coordinator.specs.declared.execution.Execution.{Execution}
use Rattle.coordinator.proofs.ShownWalk.{keys_shown, walk_shown}
use Rattle.coordinator.proofs.SegmentWrites.{has_more_writes, segment_wrote}
use Rattle.coordinator.proofs.ExecutionLemmas.{waits}
use Rattle.coordinator.specs.declared.memory.Course.{Course}
use Rattle.coordinator.specs.declared.memory.Ballot.{Ballot}
use Rattle.coordinator.specs.declared.memory.Stage.{Stage}
use Rattle.coordinator.specs.declared.memory.Stage.TheVariants as stage
use Rattle.coordinator.specs.declared.memory.Memory.{Memory}
use Rattle.coordinator.specs.Memory.{Given, Holds, StandsFor, Takes, current, phase_of}
use Rattle.vote_tally.specs.Tally.{Counted}
use Rattle.coordinator.proofs.MemoryLemmas.{begun_under_way, walk_is}
use Rattle.coordinator.proofs.AttemptLemmas.{least}

-- a client that runs is at that stage
pub running_is : (x : Stage) (e : Execution) (p q : Bool) → Running p q ≡ phase_of x e → (x ≡ stage.Running q) × (is_pending e ≡ p)
running_is stage.Between e p q h = absurd (cc)
running_is (stage.Running given) e p q h = let same : q ≡ given = cc in (ap (λ b. stage.Running b) (sym same), cc)
running_is (stage.Prepared b) e p q h = absurd (cc)

pub runs_so : (g : Given) (c : ClientState) (m : Memory) (p q : Bool) → StandsFor g c m → c.phase ≡ Running p q →
    (m.stage ≡ stage.Running q) × (is_pending m.execution ≡ p)
runs_so g c m p q s is = running_is m.stage m.execution p q (sym is ∙ s.phase)

-- it has no next labels then
pub runs_bare : (g : Given) (c : ClientState) (m : Memory) (p q : Bool) → StandsFor g c m → c.phase ≡ Running p q → m.execution.nexts ≡ []
runs_bare g c m p q s is = subst (λ x. Holds m.plan x m.execution) (runs_so g c m p q s is).0 s.holds

-- a log that waits for no segment
pub stopped : {A : Type 0} (o : Option A) → is_none o ≡ false → (a : A) × (o ≡ Some a)
stopped None e = absurd (cc)
stopped (Some a) e = (a, refl)

-- the walk of the current program on the answers so far
pub walk_now : (g : Given) (c : ClientState) (m : Memory) → StandsFor g c m → is_pending m.execution ≡ false → walk g.rules c ≡ shown m.execution.log
walk_now g c m s still =
    let n = stopped m.execution.log.next still in
    let o = current g.programs m.plan m.course.begun in
    walk_is g c m s (values c.answers) ∙ ap (λ xs. walk_of o (values xs)) s.answers ∙ walk_shown o m.execution n.0 s.execution n.1

pub keys_now : (g : Given) (c : ClientState) (m : Memory) → StandsFor g c m → (walk g.rules c).keys ≡ keys_of m.execution
keys_now g c m s =
    let o = current g.programs m.plan m.course.begun in
    ap (λ (w : Walk). w.keys) (walk_is g c m s (values c.answers)) ∙ ap (λ xs. (walk_of o (values xs)).keys) s.answers ∙ keys_shown o m.execution s.execution

-- an execution that ended runs a program
pub has_program : (o : Option Loaded) (e : Execution) → execution.StandsFor o e → is_pending e ≡ false → (l : Loaded) × (o ≡ Some l)
has_program None e s still = absurd (let none = s.follows.next in let n = stopped e.log.next still in cc)
has_program (Some l) e s still = (l, refl)

ends_still : (n : Option Next) (how : Ending) → ending_by n ≡ Some how → is_none n ≡ false
ends_still None how e = cc
ends_still (Some n) how e = refl

-- the content is that of the definitions
content_now : (g : Given) (c : ClientState) (m : Memory) (how : Ending) → StandsFor g c m → is_pending m.execution ≡ false →
    content_of m.execution how ≡ content g.rules c how
unfolding content
content_now g c m how s still =
    rw (walk_now g c m s still, s.answers) refl

pub stands_prepared : (g : Given) (c : ClientState) (m : Memory) (given : Bool) (how : Ending) (b : Ballot) (sent out : List Body) (k : Content) →
    StandsFor g c m → c.phase ≡ Running false given → ending_by m.execution.log.next ≡ Some how →
    ((l : Loaded) (e : Ending) → execution.StandsFor (Some l) m.execution → ending_by m.execution.log.next ≡ Some e → b.content ≡ content_of m.execution e) →
    k ≡ b.content → b.tally ≡ record { replicas = min m.plan.rules.replicas 5; votes = [] } → b.proposal ≡ None → out ≡ sent ++ Prepare m.course.exec k ∷ [] →
    Takes g (record { state = record c { phase = Prepared (content g.rules c how) [] None [] }; sent = sent ++ Prepare c.exec (content g.rules c how) ∷ [] })
    (record m { stage = stage.Prepared b }) out
stands_prepared g c m given how b sent out k s runs ends is copy tally proposal more =
    let still = (runs_so g c m false given s runs).1 in
    let o = current g.programs m.plan m.course.begun in
    let l = has_program o m.execution s.execution still in
    let same : b.content ≡ content g.rules c how =
    is l.0 how (subst (λ p. execution.StandsFor p m.execution) l.1 s.execution) ends ∙ content_now g c m how s still in
    record {
      state = record {
        rules = s.rules;
        limits = s.limits;
        programs = s.programs;
        course = s.course;
        within = s.within;
        started = begun_under_way g c m s (ap is_between runs);
        answers = s.answers;
        execution = s.execution;
        phase = rw (same, tally, proposal) refl;
        holds = (still, ap (λ (t : Counted). t.replicas) tally ∙ least m.plan.rules.replicas 5 s.limits.replicas);
      };
      sent = more ∙ ap (λ x. sent ++ Prepare x k ∷ []) (sym (ap (λ (h : Course). h.exec) s.course)) ∙ ap (λ x. sent ++ Prepare c.exec x ∷ []) (copy ∙ same);
    }

-- an execution is ready once it has ended and is sure
pub ready_is : (g : Given) (c : ClientState) (m : Memory) (given : Bool) (sent : List Body) → StandsFor g c m → c.phase ≡ Running false given →
    prepare_if_ready g.rules c sent ≡ prepare_when g.rules c sent (ending_by m.execution.log.next) (list_all (λ (a : Answer). a.label.sure) (answers_of m.execution))
unfolding prepare_if_ready
ready_is g c m given sent s runs =
    ap (λ (w : Walk). prepare_when g.rules c sent w.ending (list_all (λ (a : Answer). a.label.sure) c.answers))
    (walk_now g c m s (runs_so g c m false given s runs).1)
    ∙ ap (λ xs. prepare_when g.rules c sent (ending_by m.execution.log.next) (list_all (λ (a : Answer). a.label.sure) xs)) s.answers

-- what is not ready stays
pub unready : (r : protocol.Rules) (c : ClientState) (sent : List Body) (o : Option Ending) (b : Bool) → (is_some o && b) ≡ false →
    prepare_when r c sent o b ≡ record { state = c; sent = sent }
unready r c sent None true h = refl
unready r c sent None false h = refl
unready r c sent (Some e) true h = absurd (cc)
unready r c sent (Some e) false h = refl

pub takes_unready : (g : Given) (c : ClientState) (m : Memory) (given : Bool) (sent : List Body) → StandsFor g c m → c.phase ≡ Running false given →
    (is_some (ending_by m.execution.log.next) && list_all (λ (a : Answer). a.label.sure) (answers_of m.execution)) ≡ false →
    Takes g (prepare_if_ready g.rules c sent) m sent
takes_unready g c m given sent s runs h =
    subst (λ (t : Turn). Takes g t m sent)
    (sym (ready_is g c m given sent s runs ∙ unready g.rules c sent (ending_by m.execution.log.next) (list_all (λ (a : Answer). a.label.sure) (answers_of m.execution)) h))
    (record { state = s; sent = refl })

ready_when : (r : protocol.Rules) (c : ClientState) (sent : List Body) (o : Option Ending) (b : Bool) → (is_some o && b) ≡ true →
    (how : Ending) × (o ≡ Some how) × (prepare_when r c sent o b
    ≡ record { state = record c { phase = Prepared (content r c how) [] None [] }; sent = sent ++ Prepare c.exec (content r c how) ∷ [] })
ready_when r c sent None b h = absurd (cc)
ready_when r c sent (Some e) true h = (e, refl, refl)
ready_when r c sent (Some e) false h = absurd (cc)

pub takes_ready : (g : Given) (c : ClientState) (m m' : Memory) (given : Bool) (sent out : List Body) → StandsFor g c m → c.phase ≡ Running false given →
    (is_some (ending_by m.execution.log.next) && list_all (λ (a : Answer). a.label.sure) (answers_of m.execution)) ≡ true →
    ((how : Ending) → ending_by m.execution.log.next ≡ Some how →
    Takes g (record { state = record c { phase = Prepared (content g.rules c how) [] None [] }; sent = sent ++ Prepare c.exec (content g.rules c how) ∷ [] }) m' out) →
    Takes g (prepare_if_ready g.rules c sent) m' out
takes_ready g c m m' given sent out s runs h takes =
    let r = ready_when g.rules c sent (ending_by m.execution.log.next) (list_all (λ (a : Answer). a.label.sure) (answers_of m.execution)) h in
    subst (λ (t : Turn). Takes g t m' out) (sym (ready_is g c m given sent s runs ∙ r.2)) (takes r.0 r.1)

pub ended_so : (o : Option Ending) (b : Bool) → (is_some o && b) ≡ true → IsSome o
ended_so None b h = absurd (cc)
ended_so (Some e) b h = refl

-- the memory with the segment of its job
pub stands_ran : (g : Given) (c : ClientState) (m : Memory) (e : Execution) (n : Next) → StandsFor g c m → is_between c.phase ≡ false → m.execution.nexts ≡ [] →
    execution.StandsFor (current g.programs m.plan m.course.begun) e → answers_of e ≡ answers_of m.execution → e.log.next ≡ Some n → e.nexts ≡ m.execution.nexts →
    StandsFor g (record c { phase = Running false true }) (record m { execution = e; stage = stage.Running true })
stands_ran g c m e n s way bare follows answers next nexts = record {
  rules = s.rules;
  limits = s.limits;
  programs = s.programs;
  course = s.course;
  within = s.within;
  started = begun_under_way g c m s way;
  answers = s.answers ∙ sym answers;
  execution = follows;
  phase = ap (λ o. Running (is_none o) true) (sym next);
  holds = nexts ∙ bare;
}

-- the segment wrote something
pub wrote_now : (g : Given) (c : ClientState) (m : Memory) (l : Loaded) (seg : Seg) → StandsFor g c m → current g.programs m.plan m.course.begun ≡ Some l →
    is_pending m.execution ≡ true → IsJobRun l.code m.execution.job seg → wrote g.rules c ≡ nat_lt 0 (length seg.wrote)
unfolding wrote
wrote_now g c m l seg s is pending run =
    let w = λ (vs : List ℤ). walk_is g c m s vs ∙ ap (λ o. walk_of o vs) is in
    rw (w (values c.answers), w (front (values c.answers)))
    (ap (λ xs. has_more_writes l.program (values xs)) s.answers
    ∙ segment_wrote l m.execution seg (subst (λ o. execution.StandsFor o m.execution) is s.execution) (waits m.execution.log.next pending) run)

-- what goes out then
pub sent_ran : (g : Given) (c : ClientState) (m : Memory) (given : Bool) (test : Bool) (out : List Body) → StandsFor g (record c { phase = Running false true }) m →
    is_pending m.execution ≡ false → test ≡ (wrote g.rules c || (not given && nat_lt 0 c.exec.eid)) →
    out ≡ one_when (may_put (ending_by m.execution.log.next) && test) (Puts m.course.exec m.execution.log.writes) ++ question m.course.exec (asked_by m.execution.log.next) →
    prepare_if_ready g.rules (record c { phase = Running false true }) out ≡ ran g.rules c given
unfolding ran
sent_ran g c m given test out s still is sent =
    let w : walk g.rules c ≡ shown m.execution.log = walk_now g (record c { phase = Running false true }) m s still in
    let x : m.course.exec ≡ c.exec = sym (ap (λ (h : Course). h.exec) s.course) in
    ap (prepare_if_ready g.rules (record c { phase = Running false true }))
    (sent ∙ rw (x, is) (sym (ap (λ (v : Walk). one_when (may_put v.ending && (wrote g.rules c || (not given && nat_lt 0 c.exec.eid))) (Puts c.exec v.writes) ++ question c.exec v.asks) w)))

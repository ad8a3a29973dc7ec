-- A client follows Notes as the definitions say.
use Rattle.std.proofs.Common.{◌≡◌, ℕ, zero, suc, ◌+◌, Bool, true, false, not, List, [], ◌∷◌, ◌++◌, take, get_or, set, Option, Some, None, refl, ap, sym, subst, ◌∙◌}
use Rattle.std.specs.Prelude.{is_none, nat_lt, ◌&&◌}
use Rattle.std.specs.Ordering.{int_eq}
use Rattle.exec_log.specs.Log.{asked_by}
use Rattle.continuation.specs.declared.segment.Next.{Next}
use Rattle.protocol.specs.Words.{Wid, Key, Body}
use Rattle.protocol.specs.declared.Held.{Held}
use Rattle.protocol.specs.Client.State.{Answer, ClientState, Walk, idle, walk}
use Rattle.protocol.specs.Client.State.Phase.{Running}
use Rattle.protocol.specs.Client.Attempts.{bumped, has_pending, is_between, prepare_if_ready}
use Rattle.protocol.specs.Client.Deciding.{give_up, rewound}
use Rattle.protocol.specs.Client.Following.{answer_at, answered, answers_question, effect, follow_running, no_answer, note_at, note_on, note_running, place_of, prepare_if_idle, rewind, surely, with_answer}
use Rattle.protocol.specs.Client.Following.{Effect}
use Rattle.protocol.specs.Client.Following.Effect.{Nothing, Sure, Follow}
use Rattle.exec_log.specs.declared.read.LogRead.{LogRead}
use Rattle.coordinator.specs.Answers.{answers_with}
use Rattle.coordinator.specs.Execution as execution
use Rattle.coordinator.specs.Execution.{answers_of, is_pending, keys_of}
use Rattle.coordinator.specs.declared.execution.Execution.{Execution}
use Rattle.coordinator.specs.declared.memory.Course.{Course}
use Rattle.coordinator.specs.declared.memory.Stage.TheVariants as stage
use Rattle.coordinator.specs.declared.memory.Memory.{Memory}
use Rattle.coordinator.specs.Memory.{Given, StandsFor, Takes, current}
use Rattle.coordinator.proofs.MemoryLemmas.{begun_under_way}
use Rattle.coordinator.proofs.SegmentLemmas.{keys_now, runs_bare, runs_so, walk_now}

pub stays : (g : Given) (c : ClientState) (m : Memory) (out : List Body) → StandsFor g c m → out ≡ [] → Takes g (idle c) m out
stays g c m out s is = record { state = s; sent = is }

-- a pending client waits
pub idle_waits : (g : Given) (c : ClientState) (m : Memory) (given : Bool) (out : List Body) → StandsFor g c m → c.phase ≡ Running true given → out ≡ [] → Takes g (prepare_if_idle g.rules c) m out
unfolding prepare_if_idle
idle_waits g c m given out s runs is = rw (ap has_pending runs) (record { state = s; sent = is })

pub idle_goes : (g : Given) (c : ClientState) (m' : Memory) (given : Bool) (sent out : List Body) → c.phase ≡ Running false given → sent ≡ [] →
    Takes g (prepare_if_ready g.rules c sent) m' out → Takes g (prepare_if_idle g.rules c) m' out
unfolding prepare_if_idle
idle_goes g c m' given sent out runs is takes = rw (ap has_pending runs) (subst (λ bs. Takes g (prepare_if_ready g.rules c bs) m' out) is takes)

-- a read has another label of its value
pub stands_followed : (g : Given) (c : ClientState) (m : Memory) (e : Execution) (i : ℕ) (new : Held) (p q : Bool) → StandsFor g c m → c.phase ≡ Running p q →
    (answer_at c i).label.value ≡ new.value → (get_or (answers_of m.execution) i no_answer).next ≡ None →
    execution.StandsFor (current g.programs m.plan m.course.begun) e →
    answers_of e ≡ set (answers_of m.execution) i (record (get_or (answers_of m.execution) i no_answer) { label = record { wid = new.wid; value = (get_or (answers_of m.execution) i no_answer).label.value; sure = new.sure } }) →
    e.log.next ≡ m.execution.log.next → e.nexts ≡ m.execution.nexts →
    StandsFor g (with_answer c i (record { label = new; next = None })) (record m { execution = e })
stands_followed g c m e i new p q s runs value bare follows answers next nexts =
    let at : answer_at c i ≡ get_or (answers_of m.execution) i no_answer = ap (λ l. get_or l i no_answer) s.answers in
    let so = runs_so g c m p q s runs in
    record {
      rules = s.rules;
      limits = s.limits;
      programs = s.programs;
      course = s.course;
      within = s.within;
      started = s.started;
      answers =
          ap (λ l. set l i (record { label = new; next = None })) s.answers
          ∙ ap (λ v. set (answers_of m.execution) i (record { label = record { wid = new.wid; value = v; sure = new.sure }; next = None }))
          (sym value ∙ ap (λ (a : Answer). a.label.value) at)
          ∙ ap (λ n. set (answers_of m.execution) i (record { label = record { wid = new.wid; value = (get_or (answers_of m.execution) i no_answer).label.value; sure = new.sure }; next = n })) (sym bare)
          ∙ sym answers;
      execution = follows;
      phase = runs ∙ sym (rw so.0 (ap (λ b. Running b q) (ap is_none next ∙ so.1)));
      holds = rw so.0 (nexts ∙ runs_bare g c m p q s runs);
    }

-- the question is answered
pub stands_given : (g : Given) (c : ClientState) (m : Memory) (e : Execution) (new : Held) (p q : Bool) → StandsFor g c m → c.phase ≡ Running p q →
    execution.StandsFor (current g.programs m.plan m.course.begun) e → answers_of e ≡ answers_of m.execution ++ record { label = new; next = None } ∷ [] →
    is_pending e ≡ true → e.nexts ≡ m.execution.nexts →
    StandsFor g (answered c new) (record m { execution = e; stage = stage.Running true; course = record m.course { serial = bumped m.course.serial } })
stands_given g c m e new p q s runs follows answers pending nexts = record {
  rules = s.rules;
  limits = s.limits;
  programs = s.programs;
  course = ap (λ (k : Course). record k { serial = bumped k.serial }) s.course;
  within = record { begun = s.within.begun; attempt = s.within.attempt; ts = s.within.ts };
  started = begun_under_way g c m s (ap is_between runs);
  answers = ap (λ l. l ++ record { label = new; next = None } ∷ []) s.answers ∙ sym answers;
  execution = follows;
  phase = ap (λ b. Running b true) (sym pending);
  holds = nexts ∙ runs_bare g c m p q s runs;
}

-- ---- the turns of a Note

pub rewinds : (g : Given) (c : ClientState) (m' : Memory) (i : ℕ) (new : Held) (out : List Body) → nat_lt (c.exec.eid + 1) g.rules.execs ≡ true → out ≡ [] →
    StandsFor g (rewound c (take i c.answers ++ record { label = new; next = None } ∷ [])) m' → Takes g (rewind g.rules c i new) m' out
unfolding rewind
rewinds g c m' i new out more is s = rw more (record { state = s; sent = is })

pub rewinds_not : (g : Given) (c : ClientState) (m' : Memory) (i : ℕ) (new : Held) (out : List Body) → nat_lt (c.exec.eid + 1) g.rules.execs ≡ false →
    Takes g (give_up c) m' out → Takes g (rewind g.rules c i new) m' out
unfolding rewind
rewinds_not g c m' i new out none takes = rw none takes

pub follows_same : (g : Given) (c : ClientState) (m' : Memory) (i : ℕ) (new : Held) (out : List Body) → int_eq (answer_at c i).label.value new.value ≡ true →
    Takes g (prepare_if_idle g.rules (with_answer c i (record { label = new; next = None }))) m' out → Takes g (follow_running g.rules c i (answer_at c i) new Follow) m' out
unfolding follow_running
follows_same g c m' i new out e takes = rw e takes

pub follows_other : (g : Given) (c : ClientState) (m' : Memory) (i : ℕ) (new : Held) (out : List Body) → int_eq (answer_at c i).label.value new.value ≡ false →
    Takes g (rewind g.rules c i new) m' out → Takes g (follow_running g.rules c i (answer_at c i) new Follow) m' out
unfolding follow_running
follows_other g c m' i new out e takes = rw e takes

-- a Note by its effect
pub note_does : (g : Given) (c : ClientState) (m' : Memory) (i : ℕ) (new : Held) (gone : Option Wid) (x : Effect) (out : List Body) → effect (answer_at c i).label new gone ≡ x →
    Takes g (follow_running g.rules c i (answer_at c i) new x) m' out → Takes g (note_at g.rules c new gone (Some i)) m' out
unfolding note_at
note_does g c m' i new gone x out e takes = rw e takes

pub does_nothing : (g : Given) (c : ClientState) (m : Memory) (i : ℕ) (new : Held) (out : List Body) → StandsFor g c m → out ≡ [] →
    Takes g (follow_running g.rules c i (answer_at c i) new Nothing) m out
unfolding follow_running
does_nothing g c m i new out s is = record { state = s; sent = is }

pub does_sure : (g : Given) (c : ClientState) (m' : Memory) (i : ℕ) (new : Held) (out : List Body) →
    Takes g (prepare_if_idle g.rules (with_answer c i (record { label = surely (answer_at c i).label; next = None }))) m' out →
    Takes g (follow_running g.rules c i (answer_at c i) new Sure) m' out
unfolding follow_running
does_sure g c m' i new out takes = takes

-- a question stands only where no job is pending
asks_now : (g : Given) (c : ClientState) (m : Memory) (p q : Bool) (k : Key) → StandsFor g c m → c.phase ≡ Running p q →
    (not p && answers_question (walk g.rules c).asks k) ≡ answers_question (asked_by m.execution.log.next) k
asks_now g c m p q k s runs = go p m.execution.log.next refl (runs_so g c m p q s runs).1
  where
    go : (b : Bool) (n : Option Next) → m.execution.log.next ≡ n → is_none m.execution.log.next ≡ b →
        (not b && answers_question (walk g.rules c).asks k) ≡ answers_question (asked_by m.execution.log.next) k
    go true None is e = rw is refl
    go true (Some n) is e = absurd (let some = ap is_none is in cc)
    go false n is e = ap (λ (w : Walk). answers_question w.asks k) (walk_now g c m s e)

pub notes : (g : Given) (c : ClientState) (m m' : Memory) (p q : Bool) (k : Key) (new : Held) (gone : Option Wid) (b : Bool) (out : List Body) → StandsFor g c m → c.phase ≡ Running p q →
    answers_question (asked_by m.execution.log.next) k ≡ b → Takes g (note_on g.rules c k new gone b) m' out → Takes g (note_running g.rules c p k new gone) m' out
unfolding note_running
notes g c m m' p q k new gone b out s runs is takes = rw (asks_now g c m p q k s runs ∙ is) takes

pub note_answers : (g : Given) (c : ClientState) (m' : Memory) (k : Key) (new : Held) (gone : Option Wid) (out : List Body) → Takes g (idle (answered c new)) m' out → Takes g (note_on g.rules c k new gone true) m' out
unfolding note_on
note_answers g c m' k new gone out takes = takes

pub note_follows : (g : Given) (c : ClientState) (m m' : Memory) (k : Key) (new : Held) (gone : Option Wid) (o : Option ℕ) (out : List Body) → StandsFor g c m → place_of k 0 (keys_of m.execution) ≡ o →
    Takes g (note_at g.rules c new gone o) m' out → Takes g (note_on g.rules c k new gone false) m' out
unfolding note_on
note_follows g c m m' k new gone o out s is takes = rw (keys_now g c m s, is) takes

pub note_nowhere : (g : Given) (c : ClientState) (m : Memory) (new : Held) (gone : Option Wid) (out : List Body) → StandsFor g c m → out ≡ [] → Takes g (note_at g.rules c new gone None) m out
unfolding note_at
note_nowhere g c m new gone out s is = record { state = s; sent = is }

bare_next : (reads : List LogRead) (i : ℕ) → (get_or (answers_with reads []) i no_answer).next ≡ None
bare_next [] i = refl
bare_next (r ∷ reads) zero = refl
bare_next (r ∷ reads) (suc i) = bare_next reads i

-- without next labels no answer has one
pub next_bare : (e : Execution) (i : ℕ) → e.nexts ≡ [] → (get_or (answers_of e) i no_answer).next ≡ None
next_bare e i is = ap (λ ns. (get_or (answers_with e.log.reads ns) i no_answer).next) is ∙ bare_next e.log.reads i

-- the label in use
pub label_is : (g : Given) (c : ClientState) (m : Memory) (i : ℕ) → StandsFor g c m → (answer_at c i).label ≡ (get_or (answers_of m.execution) i no_answer).label
label_is g c m i s = ap (λ l. (get_or l i no_answer).label) s.answers

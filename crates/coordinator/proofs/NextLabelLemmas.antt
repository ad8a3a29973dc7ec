-- A client keeps the labels that its reads take in the next execution as the definitions say.
use Rattle.std.proofs.Common.{◌≡◌, ℕ, zero, suc, List, [], ◌∷◌, get_or, set, Option, Some, None, refl, ap, sym, subst, ◌∙◌}
use Rattle.std.specs.Prelude.{is_none, option_map}
use Rattle.protocol.specs.Words.{Wid, Key, Body, Choice, Content}
use Rattle.protocol.specs.declared.Held.{Held}
use Rattle.protocol.specs.Client.State.{Answer, ClientState, CountedVote, idle}
use Rattle.protocol.specs.Client.State.Phase.{Prepared}
use Rattle.protocol.specs.Client.Following.{answer_at, effect, follow_prepared, next_label, no_answer, note_prepared, place_of, prepared_at, surely, with_answer}
use Rattle.protocol.specs.Client.Following.{Effect}
use Rattle.protocol.specs.Client.Following.Effect.{Sure, Follow}
use Rattle.exec_log.specs.Log.{Log}
use Rattle.coordinator.specs.Execution as execution
use Rattle.coordinator.specs.Execution.{answers_of, keys_of}
use Rattle.coordinator.specs.declared.execution.Execution.{Execution}
use Rattle.coordinator.specs.declared.memory.Memory.{Memory}
use Rattle.coordinator.specs.Memory.{Given, StandsFor, Takes, current}
use Rattle.coordinator.proofs.SegmentLemmas.{keys_now}
use Rattle.coordinator.proofs.DecidingLemmas.{prepared_so}

-- a read of the prepared execution has another next label
pub stands_next : (g : Given) (c : ClientState) (m : Memory) (e : Execution) (i : ℕ) (new : Held) (content : Content) (votes : List CountedVote) (proposal : Option Choice) (accepts : List ℕ) →
    StandsFor g c m → c.phase ≡ Prepared content votes proposal accepts → execution.StandsFor (current g.programs m.plan m.course.begun) e →
    answers_of e ≡ set (answers_of m.execution) i (record (get_or (answers_of m.execution) i no_answer) { next = Some new }) → e.log ≡ m.execution.log →
    StandsFor g (follow_prepared c i (answer_at c i) new Follow) (record m { execution = e })
stands_next g c m e i new content votes proposal accepts s is follows answers log =
    let p = prepared_so g c m content votes proposal accepts s is in
    record {
      rules = s.rules;
      limits = s.limits;
      programs = s.programs;
      course = s.course;
      within = s.within;
      started = s.started;
      answers = ap (λ l. set l i (record { label = (get_or l i no_answer).label; next = Some new })) s.answers ∙ sym answers;
      execution = follows;
      phase = s.phase ∙ rw p.1.at refl;
      holds = rw p.1.at (ap (λ (l : Log). is_none l.next) log ∙ p.1.still, p.1.replicas);
    }

-- the next label at a place
pub next_is : (g : Given) (c : ClientState) (m : Memory) (i : ℕ) → StandsFor g c m → (answer_at c i).next ≡ (get_or (answers_of m.execution) i no_answer).next
next_is g c m i s = ap (λ l. (get_or l i no_answer).next) s.answers

pub next_label_is : (g : Given) (c : ClientState) (m : Memory) (i : ℕ) → StandsFor g c m → next_label (answer_at c i) ≡ next_label (get_or (answers_of m.execution) i no_answer)
next_label_is g c m i s = ap (λ l. next_label (get_or l i no_answer)) s.answers

-- an answer that is put where it stands
set_same : (answers : List Answer) (i : ℕ) → set answers i (get_or answers i no_answer) ≡ answers
set_same [] i = refl
set_same (a ∷ answers) zero = refl
set_same (a ∷ answers) (suc i) = ap (λ l. a ∷ l) (set_same answers i)

-- without a next label nothing turns sure
pub stays_unsure : (g : Given) (c : ClientState) (m : Memory) (i : ℕ) (new : Held) → StandsFor g c m → (answer_at c i).next ≡ None →
    StandsFor g (follow_prepared c i (answer_at c i) new Sure) m
stays_unsure g c m i new s none = record {
  rules = s.rules;
  limits = s.limits;
  programs = s.programs;
  course = s.course;
  within = s.within;
  started = s.started;
  answers =
      ap (λ n. set c.answers i (record { label = (answer_at c i).label; next = option_map surely n })) none
      ∙ ap (λ n. set c.answers i (record { label = (answer_at c i).label; next = n })) (sym none)
      ∙ set_same c.answers i ∙ s.answers;
  execution = s.execution;
  phase = s.phase;
  holds = s.holds;
}

-- a next label turns sure
pub turns_sure : (g : Given) (c : ClientState) (m' : Memory) (i : ℕ) (new next : Held) → (answer_at c i).next ≡ Some next →
    StandsFor g (follow_prepared c i (answer_at c i) (surely next) Follow) m' → StandsFor g (follow_prepared c i (answer_at c i) new Sure) m'
turns_sure g c m' i new next is s =
    subst (λ n. StandsFor g (with_answer c i (record { label = (answer_at c i).label; next = option_map surely n })) m') (sym is) s

-- a Note by its effect
pub prepared_does : (g : Given) (c : ClientState) (m' : Memory) (i : ℕ) (new : Held) (gone : Option Wid) (x : Effect) → effect (next_label (answer_at c i)) new gone ≡ x →
    StandsFor g (follow_prepared c i (answer_at c i) new x) m' → StandsFor g (prepared_at c new gone (Some i)) m'
prepared_does g c m' i new gone x e s = subst (λ y. StandsFor g (follow_prepared c i (answer_at c i) new y) m') (sym e) s

pub notes_prepared : (g : Given) (c : ClientState) (m m' : Memory) (k : Key) (new : Held) (gone : Option Wid) (o : Option ℕ) (out : List Body) → StandsFor g c m →
    place_of k 0 (keys_of m.execution) ≡ o → out ≡ [] → StandsFor g (prepared_at c new gone o) m' → Takes g (idle (note_prepared g.rules c k new gone)) m' out
unfolding note_prepared
notes_prepared g c m m' k new gone o out s is nothing done = rw (keys_now g c m s, is) (record { state = done; sent = nothing })

-- How a client follows Notes.
use Rattle.std.specs.Prelude.{option_map, ℕ, pos, suc, ◌+◌, Bool, true, false, cond, not, ◌&&◌, ◌||◌, nat_lt, List, [], ◌∷◌, ◌++◌, take, Option, Some, None, get_or, set, unwrap_or}
use Rattle.std.specs.Ordering.{int_eq}
use Rattle.protocol.specs.Words.{Wid, Key, no_version, same_key, same_wid, wid_before}
use Rattle.protocol.specs.declared.Held.{Held}
use Rattle.protocol.specs.Client.State.{Answer, ClientState, Rules, Turn, idle, walk}
use Rattle.protocol.specs.Client.Attempts.{bumped, has_pending, prepare_if_ready}
use Rattle.protocol.specs.Client.Deciding.{give_up, rewound}
use Rattle.protocol.specs.Client.State.Phase.{Running}

-- the place of the read of k, where i is that of the first key
abbrev pub place_of : Key → ℕ → List Key → Option ℕ
place_of k i [] = None
place_of k i (l ∷ ls) = cond (same_key k l) (Some i) (place_of k (suc i) ls)

-- what a Note does to a read: nothing, it makes it sure, or the read follows it
pub data Effect : Type 0 where
  Nothing : Effect
  Sure : Effect
  Follow : Effect

-- the label in use is named as gone
abbrev pub is_named : Held → Option Wid → Bool
is_named old None = false
is_named old (Some lost) = same_wid old.wid lost

-- its own write can only turn a read sure, whatever is named as gone; it follows a later write, and any other once its
-- own is gone
abbrev pub effect : Held → Held → Option Wid → Effect
effect old new gone =
    cond (same_wid old.wid new.wid) (cond new.sure Sure Nothing)
    (cond (wid_before old.wid new.wid || is_named old gone) Follow Nothing)

-- the label, sure
abbrev pub surely : Held → Held
surely l = record { wid = l.wid; value = l.value; sure = true }

-- the answer at place i is replaced
abbrev pub with_answer : ClientState → ℕ → Answer → ClientState
with_answer c i a = record c { answers = set c.answers i a }

-- where no job is pending, the execution may be ready now
unfoldable pub prepare_if_idle : Rules → ClientState → Turn
prepare_if_idle r c = cond (has_pending c.phase) (idle c) (prepare_if_ready r c [])

-- the next execution begins at a read with another value; at the limit of executions the client gives up instead
unfoldable pub rewind : Rules → ClientState → ℕ → Held → Turn
rewind r c i new =
    cond (nat_lt (c.exec.eid + 1) r.execs)
    (idle (rewound c (take i c.answers ++ record { label = new; next = None } ∷ [])))
    (give_up c)

-- following while nothing is prepared: the same value changes the label alone
unfoldable pub follow_running : Rules → ClientState → ℕ → Answer → Held → Effect → Turn
follow_running r c i a new Nothing = idle c
follow_running r c i a new Sure = prepare_if_idle r (with_answer c i (record { label = surely a.label; next = None }))
follow_running r c i a new Follow =
    cond (int_eq a.label.value new.value)
    (prepare_if_idle r (with_answer c i (record { label = new; next = None })))
    (rewind r c i new)

-- the label with which later Notes are compared while prepared
abbrev pub next_label : Answer → Held
next_label a = unwrap_or a.next a.label

-- following while prepared: the new label is kept beside the one in use
abbrev pub follow_prepared : ClientState → ℕ → Answer → Held → Effect → ClientState
follow_prepared c i a new Nothing = c
follow_prepared c i a new Sure = with_answer c i (record { label = a.label; next = option_map surely a.next })
follow_prepared c i a new Follow = with_answer c i (record { label = a.label; next = Some new })

-- what stands where there is no answer
abbrev pub no_answer : Answer
no_answer = record { label = record { wid = record { ver = no_version; eid = 0; seq = 0 }; value = pos 0; sure = false }; next = None }

-- the answer at place i
abbrev pub answer_at : ClientState → ℕ → Answer
answer_at c i = get_or c.answers i no_answer

-- the key is the one asked
abbrev pub answers_question : Option Key → Key → Bool
answers_question None k = false
answers_question (Some l) k = same_key k l

-- a Note about a read that was answered
unfoldable pub note_at : Rules → ClientState → Held → Option Wid → Option ℕ → Turn
note_at r c new lost None = idle c
note_at r c new lost (Some i) = follow_running r c i (answer_at c i) new (effect (answer_at c i).label new lost)

-- the question is answered, and a job with the answer is pending
abbrev pub answered : ClientState → Held → ClientState
answered c new = record c {
  answers = c.answers ++ record { label = new; next = None } ∷ [];
  phase = Running true true;
  serial = bumped c.serial;
}

-- a Note answers the question, or is about an answered read
unfoldable pub note_on : Rules → ClientState → Key → Held → Option Wid → (asked : Bool) → Turn
note_on r c k new lost true = idle (answered c new)
note_on r c k new lost false = note_at r c new lost (place_of k 0 (walk r c).keys)

-- a Note while nothing is prepared: a question stands only where no job is pending
unfoldable pub note_running : Rules → ClientState → Bool → Key → Held → Option Wid → Turn
note_running r c pending k new lost = note_on r c k new lost (not pending && answers_question (walk r c).asks k)

-- a Note about a read of the prepared execution
abbrev pub prepared_at : ClientState → Held → Option Wid → Option ℕ → ClientState
prepared_at c new lost None = c
prepared_at c new lost (Some i) = follow_prepared c i (answer_at c i) new (effect (next_label (answer_at c i)) new lost)

-- a Note while prepared
unfoldable pub note_prepared : Rules → ClientState → Key → Held → Option Wid → ClientState
note_prepared r c k new lost = prepared_at c new lost (place_of k 0 (walk r c).keys)

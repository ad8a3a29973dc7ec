-- One operation moves a part of a segment from what it has to do to what it did.
use Rattle.std.proofs.Common.{◌≡◌, ℕ, zero, suc, ◌+◌, ◌≤◌, List, [], ◌∷◌, ◌++◌, Bool, true, false, Option, Some, None, refl, sym, ap, subst, ◌∙◌, ℤ, arith, append_assoc, add_assoc, zero-add}
use Rattle.std.proofs.lemmas.List.{reverse-append}
use Rattle.morty_base.specs.declared.names.Key.{Key}
use Rattle.morty_base.specs.declared.names.Ending.{Ending}
use Rattle.txn_lang.specs.Keys.{Entry, entry, found}
use Rattle.txn_lang.specs.Actions.{Actions}
use Rattle.txn_lang.specs.Runs.{Run, asking, ended, after_read, after_write, after_line, after_begin, read_by, run, next_answer}
use Rattle.txn_lang.specs.Laws.{joined, GoesOn}
use Rattle.flat_code.specs.declared.code.TheConstants.{MOST_OPERATIONS}
use Rattle.flat_code.specs.declared.frame.Frame.{Frame}
use Rattle.flat_code.specs.declared.frame.OpOut.{OpOut}
use Rattle.flat_code.specs.declared.frame.OpOut.TheVariants as out
use Rattle.flat_code.specs.Operation.{Operation, begins, Flat}
use Rattle.flat_code.specs.Step.{Step, gives, answered}
use Rattle.flat_code.specs.Does.{fetched, After, Begun, DoesAt, DoesFrom, performed_at, performed, ticks_of, ticks_at, ticks}
use Rattle.flat_code.proofs.More.{Doing}
use Rattle.continuation.specs.Underway.{SoFar, run_so_far, known_now, Underway}

abbrev parts : List Entry → List ℤ → ℕ → Run → Run
parts wrote printed ran s = joined (run_so_far (record { wrote = wrote; printed = printed; ran = ran })) s

pub append_none : {A : Type 0} (l : List A) → l ≡ l ++ []
append_none [] = refl
append_none (x ∷ l) = ap (λ m. x ∷ m) (append_none l)

pub zero_more : (n : ℕ) → n ≡ n + 0
zero_more n = omega arith

joined_asking : (d : SoFar) (k : Key) (known : List Entry) (s : Run) → joined (run_so_far d) s ≡ joined (joined (run_so_far d) (asking k known)) s
joined_asking d k known s =
    ap (λ l. parts l d.printed d.ran s) (append_none d.wrote) ∙ ap (λ l. parts (d.wrote ++ []) l d.ran s) (append_none d.printed)
    ∙ ap (λ n. parts (d.wrote ++ []) (d.printed ++ []) n s) (zero_more d.ran)

pub from_nothing : (s : Run) → s ≡ joined (run_so_far (record { wrote = []; printed = []; ran = 0 })) s
from_nothing s =
    ap (λ n. record { reads = s.reads; writes = s.writes; out = s.out; begun = n; asks = s.asks; ending = s.ending; known = s.known }) (sym (zero-add s.begun))

abbrev pub ticked : SoFar → ℕ → SoFar
ticked d n = record d { ran = d.ran + n }

abbrev pub with_write : SoFar → Entry → SoFar
with_write d w = record d { wrote = d.wrote ++ w ∷ [] }

abbrev pub with_line : SoFar → ℤ → SoFar
with_line d x = record d { printed = d.printed ++ x ∷ [] }

abbrev from_parts : List Entry → List ℤ → ℕ → Run → Run
from_parts writes printed begun s =
    record { reads = s.reads; writes = writes; out = printed; begun = begun; asks = s.asks; ending = s.ending; known = s.known }

-- one action moves from what is to be done to what was done
begin_moves : (d : SoFar) (s : Run) → joined (run_so_far d) (after_begin s) ≡ joined (run_so_far (ticked d 1)) s
begin_moves d s = ap (λ n. from_parts (d.wrote ++ s.writes) (d.printed ++ s.out) n s) (sym (add_assoc d.ran 1 s.begun))

write_moves : (d : SoFar) (w : Entry) (s : Run) → joined (run_so_far d) (after_write w s) ≡ joined (run_so_far (with_write d w)) s
write_moves d w s = ap (λ l. from_parts l (d.printed ++ s.out) (d.ran + s.begun) s) (sym (append_assoc d.wrote (w ∷ []) s.writes))

line_moves : (d : SoFar) (x : ℤ) (s : Run) → joined (run_so_far d) (after_line x s) ≡ joined (run_so_far (with_line d x)) s
line_moves d x s = ap (λ l. from_parts (d.wrote ++ s.writes) l (d.ran + s.begun) s) (sym (append_assoc d.printed (x ∷ []) s.out))

pub known_with : (known : List Entry) (d : SoFar) (w : Entry) → w ∷ known_now known d ≡ known_now known (with_write d w)
known_with known d w = ap (λ l. l ++ known) (sym (reverse-append d.wrote (w ∷ [])))

-- whatever answers are left, the run of `a` is what was done and then the run of `rest`
abbrev pub Splits : SoFar → Actions → Actions → List Entry → Type 0
Splits d rest a known = (answers : List ℤ) →
    run next_answer a known answers ≡ joined (run_so_far d) (run next_answer rest (known_now known d) answers)

-- the statement of an operation is begun
pub record Entered (code : Flat) (D : Doing) (o : Operation) (what : OpOut) (at : Frame) (d : SoFar) (a : Actions) (known : List Entry) : Type 0 where
  pub rest : Actions
  pub after : After D o what at rest
  pub same : Splits d rest a known

pub enters : (code : Flat) (D : Doing) (o : Operation) (b : Bool) (what : OpOut) (at : Frame) (d : SoFar) (a : Actions) (known : List Entry) (rest : Actions) →
    Begun b (After D o what at) rest →
    Splits d rest a known →
    Entered code D o what at (ticked d (ticks_of b)) a known
enters code D o true what at d a known rest h same = record {
  rest = h.0;
  after = h.2;
  same = λ answers.
      same answers ∙ ap (λ r. joined (run_so_far d) (run next_answer r (known_now known d) answers)) h.1
      ∙ begin_moves d (run next_answer h.0 (known_now known d) answers);
}
enters code D o false what at d a known rest h same = record {
  rest = rest;
  after = h;
  same = λ answers. same answers ∙ ap (λ n. joined (run_so_far (record d { ran = n })) (run next_answer rest (known_now known d) answers)) (zero_more d.ran);
}

-- after an operation that only moves on
pub went_on : (code : Flat) (n i : ℕ) → n + i ≤ MOST_OPERATIONS → (o : Operation) (at : Frame) (d : SoFar) (a : Actions) (known : List Entry) →
    Entered code (DoesFrom code n) o out.Went at d a known → Underway code i at d a known
went_on code n i few o at d a known e = record { left = n; few = few; rest = e.rest; does = e.after; same = e.same }

-- after a write
pub wrote_on : (code : Flat) (n i : ℕ) → n + i ≤ MOST_OPERATIONS → (o : Operation) (at : Frame) (w : Entry) (d : SoFar) (a : Actions) (known : List Entry) →
    Entered code (DoesFrom code n) o (out.Wrote w) at d a known → Underway code i at (with_write d w) a known
wrote_on code n i few o at w d a known e = record {
  left = n;
  few = few;
  rest = e.after.0;
  does = e.after.2;
  same = λ answers.
      e.same answers ∙ ap (λ r. joined (run_so_far d) (run next_answer r (known_now known d) answers)) e.after.1
      ∙ write_moves d w (run next_answer e.after.0 (w ∷ known_now known d) answers)
      ∙ ap (λ k. joined (run_so_far (with_write d w)) (run next_answer e.after.0 k answers)) (known_with known d w);
}

-- after a line
pub printed_on : (code : Flat) (n i : ℕ) → n + i ≤ MOST_OPERATIONS → (o : Operation) (at : Frame) (x : ℤ) (d : SoFar) (a : Actions) (known : List Entry) →
    Entered code (DoesFrom code n) o (out.Printed x) at d a known → Underway code i at (with_line d x) a known
printed_on code n i few o at x d a known e = record {
  left = n;
  few = few;
  rest = e.after.0;
  does = e.after.2;
  same = λ answers.
      e.same answers ∙ ap (λ r. joined (run_so_far d) (run next_answer r (known_now known d) answers)) e.after.1
      ∙ line_moves d x (run next_answer e.after.0 (known_now known d) answers);
}

-- a question about a known key goes on with what is known
pub known_on : (code : Flat) (n i : ℕ) → n + i ≤ MOST_OPERATIONS →
    (o : Operation) (at : Frame) (k : Key) (x : ℤ) (d : SoFar) (a : Actions) (known : List Entry) → found (known_now known d) k ≡ Some x →
    Entered code (DoesFrom code n) o (out.Asks k) at d a known → Underway code i (answered o at x) d a known
known_on code n i few o at k x d a known h e = record {
  left = n;
  few = few;
  rest = e.after.0 x;
  does = e.after.2 x;
  same = λ answers.
      e.same answers ∙ ap (λ r. joined (run_so_far d) (run next_answer r (known_now known d) answers)) e.after.1
      ∙ ap (λ s. joined (run_so_far d)
      (read_by s (next_answer answers k) k (known_now known d) answers (λ y known t. run next_answer (e.after.0 y) known t))) h;
}

-- any other question stops the segment: it asks, and goes on with the answer
pub record Stopped (code : Flat) (n : ℕ) (o : Operation) (at : Frame) (k : Key) (d : SoFar) (a : Actions) (known : List Entry) : Type 0 where
  pub stopped : run next_answer a known [] ≡ joined (run_so_far d) (asking k (known_now known d))
  pub goes : GoesOn a known [] k
  pub does : (x : ℤ) → DoesFrom code n (answered o at x) (goes.next x)

pub asked_on : (code : Flat) (n : ℕ) (o : Operation) (at : Frame) (k : Key) (d : SoFar) (a : Actions) (known : List Entry) →
    found (known_now known d) k ≡ None → Entered code (DoesFrom code n) o (out.Asks k) at d a known → Stopped code n o at k d a known
asked_on code n o at k d a known h e =
    let now = known_now known d in
    let next = e.after.0 in
    let whole = λ (answers : List ℤ).
    e.same answers ∙ ap (λ r. joined (run_so_far d) (run next_answer r now answers)) e.after.1
    ∙ ap (λ s. joined (run_so_far d) (read_by s (next_answer answers k) k now answers (λ y known t. run next_answer (next y) known t))) h in
    record {
      stopped = whole [];
      goes = record {
        next = next;
        resumed = λ x further.
            whole (x ∷ further)
            ∙ joined_asking d k now (after_read (entry k x) (run next_answer (next x) (entry k x ∷ now) further))
            ∙ sym (ap (λ r. joined r (after_read (entry k x) (run next_answer (next x) (entry k x ∷ r.known) further))) (whole []));
      };
      does = e.after.2;
    }

-- the ending stops it too
pub ended_on : (code : Flat) (n : ℕ) (o : Operation) (at : Frame) (how : Ending) (d : SoFar) (a : Actions) (known : List Entry) →
    Entered code (DoesFrom code n) o (out.Ends how) at d a known → run next_answer a known [] ≡ joined (run_so_far d) (ended how (known_now known d))
ended_on code n o at how d a known e = e.same [] ∙ ap (λ r. joined (run_so_far d) (run next_answer r (known_now known d) [])) e.after

-- one operation of a segment under way
pub record Stepped (code : Flat) (m : ℕ) (f : Frame) (what : OpOut) (at : Frame) (d : SoFar) (a : Actions) (known : List Entry) : Type 0 where
  pub o : Operation
  pub there : fetched code f.pc ≡ Some o
  pub entered : Entered code (DoesFrom code m) o what at (ticked d (ticks code f)) a known

stepped_at : (code : Flat) (m : ℕ) (f : Frame) (what : OpOut) (at : Frame) (d : SoFar) (a : Actions) (known : List Entry)
    (here : Option Operation) (rest : Actions) →
    fetched code f.pc ≡ here → DoesAt (DoesFrom code m) here f rest → performed_at here f ≡ gives what at →
    Splits d rest a known → Stepped code m f what at d a known
stepped_at code m f what at d a known None rest h does e same = absurd does
stepped_at code m f what at d a known (Some o) rest h does e same =
    let begun = subst (λ (s : Step). Begun (begins o) (After (DoesFrom code m) o s.out s.at) rest) e does in
    let entered = enters code (DoesFrom code m) o (begins o) what at d a known rest begun same in
    record { o = o; there = h; entered = subst (λ x. Entered code (DoesFrom code m) o what at (ticked d (ticks_at x)) a known) (sym h) entered }

-- what a segment under way has left once an operation was done
pub record Left (code : Flat) (i : ℕ) (f : Frame) (what : OpOut) (at : Frame) (d : SoFar) (a : Actions) (known : List Entry) : Type 0 where
  pub left : ℕ
  pub few : left + (i + 1) ≤ MOST_OPERATIONS
  pub stepped : Stepped code left f what at d a known

left_on : (code : Flat) (i n : ℕ) (f : Frame) (what : OpOut) (at : Frame) (d : SoFar) (a : Actions) (known : List Entry) (rest : Actions) →
    n + i ≤ MOST_OPERATIONS → DoesFrom code n f rest → performed code f ≡ gives what at →
    Splits d rest a known → Left code i f what at d a known
left_on code i zero f what at d a known rest few does e same = absurd does
left_on code i (suc m) f what at d a known rest few does e same =
    record { left = m; few = omega arith; stepped = stepped_at code m f what at d a known (fetched code f.pc) rest refl does.1 e same }

pub step_on : (code : Flat) (i : ℕ) (f : Frame) (what : OpOut) (at : Frame) (d : SoFar) (a : Actions) (known : List Entry) → Underway code i f d a known →
    performed code f ≡ gives what at → Left code i f what at d a known
step_on code i f what at d a known u e = left_on code i u.left f what at d a known u.rest u.few u.does e u.same

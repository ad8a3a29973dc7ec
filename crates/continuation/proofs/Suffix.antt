-- A segment that follows an answer is what the replay on it has beyond the replay without it.
use Rattle.std.proofs.Common.{◌≡◌, ℕ, ◌+◌, List, [], ◌∷◌, ◌++◌, sym, ap, subst, ◌∙◌, ℤ, append_assoc, add_assoc}
use Rattle.morty_base.specs.declared.names.Key.{Key}
use Rattle.txn_lang.specs.Keys.{Entry, entry}
use Rattle.txn_lang.specs.Program.{Program, replay_of}
use Rattle.txn_lang.specs.Runs.{Run, after_read, run, next_answer}
use Rattle.txn_lang.specs.Laws.{joined, GoesOn}
use Rattle.flat_code.specs.declared.frame.Frame.{Frame}
use Rattle.flat_code.specs.Operation.{Flat}
use Rattle.flat_code.specs.Does.{fetched, first_frame, answered_at}
use Rattle.continuation.specs.declared.segment.Next.{Next}
use Rattle.continuation.specs.declared.segment.Next.TheVariants as next
use Rattle.continuation.specs.declared.segment.Seg.{Seg}
use Rattle.continuation.specs.Reaching.{ComesTo}
use Rattle.continuation.specs.Place.{actions_of, frame_of}
use Rattle.continuation.specs.Segment.{alone, StopsAlone, IsSegment, StopsAs, IsFirst, IsSuffix}
use Rattle.continuation.proofs.Places.{comes_further}

abbrev run_from : List Entry → List Entry → List ℤ → ℕ → Run → Run
run_from reads writes out begun s =
    record { reads = reads; writes = writes; out = out; begun = begun; asks = s.asks; ending = s.ending; known = s.known }

joined_assoc : (r s t : Run) → joined r (joined s t) ≡ joined (joined r s) t
joined_assoc r s t =
    let reads = (r.reads ++ s.reads) ++ t.reads in
    let writes = (r.writes ++ s.writes) ++ t.writes in
    let begun = r.begun + (s.begun + t.begun) in
    ap (λ l. run_from l (r.writes ++ (s.writes ++ t.writes)) (r.out ++ (s.out ++ t.out)) begun t) (sym (append_assoc r.reads s.reads t.reads))
    ∙ ap (λ l. run_from reads l (r.out ++ (s.out ++ t.out)) begun t) (sym (append_assoc r.writes s.writes t.writes))
    ∙ ap (λ l. run_from reads writes l begun t) (sym (append_assoc r.out s.out t.out))
    ∙ ap (λ n. run_from reads writes ((r.out ++ s.out) ++ t.out) n t) (sym (add_assoc r.begun s.begun t.begun))

module _ (p : Program) (answers : List ℤ) (k : Key) (value : ℤ) (goes : GoesOn (actions_of p) [] answers k) where
  abbrev before : Run
  before = replay_of p answers

  abbrev after : Run
  after = replay_of p (answers ++ value ∷ [])

  abbrev shown : List Entry
  shown = entry k value ∷ before.known

  abbrev segment : Run
  segment = alone (goes.next value) shown

  -- the replay on one more answer
  pub more : after ≡ joined before (after_read (entry k value) segment)
  more = goes.resumed value []

  -- where the segment asks again, the replay on one more answer goes on as it does
  pub goes_further : (j : Key) → GoesOn (goes.next value) shown [] j → GoesOn (actions_of p) [] (answers ++ value ∷ []) j
  goes_further j on = record {
    next = on.next;
    resumed = λ x further.
        let tail = after_read (entry j x) (run next_answer (on.next x) (entry j x ∷ segment.known) further) in
        ap (replay_of p) (append_assoc answers (value ∷ []) (x ∷ further))
        ∙ goes.resumed value (x ∷ further)
        ∙ ap (λ r. joined before (after_read (entry k value) r)) (on.resumed x further)
        ∙ joined_assoc before (after_read (entry k value) segment) tail
        ∙ sym (ap (λ r. joined r (after_read (entry j x) (run next_answer (on.next x) (entry j x ∷ r.known) further))) more);
  }

  module _ (code : Flat) (f : Frame) (at : ComesTo code (first_frame code) [] answers k before.known f) where
    abbrev resumes : Frame
    resumes = answered_at (fetched code f.pc) f value

    stops : (n : Next) → StopsAlone code resumes (goes.next value) shown n → StopsAs code p (answers ++ value ∷ []) n
    unfolding goes_further
    stops (next.Asks j cont) h = record {
      asks = ap (λ (r : Run). r.asks) more ∙ h.asks;
      goes = goes_further j h.goes;
      awaits = h.awaits;
      comes = subst (λ es. ComesTo code (first_frame code) [] (answers ++ value ∷ []) j es (frame_of cont)) (sym (ap (λ (r : Run). r.known) more))
          (comes_further code (first_frame code) answers value k j before.known segment.known f (frame_of cont) at h.comes);
    }
    stops (next.Ends how) h = ap (λ (r : Run). r.ending) more ∙ h

    -- a segment after the answer is the suffix of the replay
    pub is_suffix : (seg : Seg) → IsSegment code resumes (goes.next value) shown seg → IsSuffix code p answers value seg
    is_suffix seg h = record {
      wrote = ap (λ (r : Run). r.writes) more ∙ ap (λ l. before.writes ++ l) h.wrote;
      printed = ap (λ (r : Run). r.out) more ∙ ap (λ l. before.out ++ l) h.printed;
      ran = ap (λ (r : Run). r.begun) more ∙ ap (λ n. before.begun + n) h.ran;
      next = stops seg.next h.next;
    }

first_stops : (code : Flat) (p : Program) (n : Next) → StopsAlone code (first_frame code) (actions_of p) [] n → StopsAs code p [] n
first_stops code p (next.Asks j cont) h = record { asks = h.asks; goes = h.goes; awaits = h.awaits; comes = h.comes }
first_stops code p (next.Ends how) h = h

-- a segment from nothing known is the replay with no answers
pub is_first : (code : Flat) (p : Program) (seg : Seg) → IsSegment code (first_frame code) (actions_of p) [] seg → IsFirst code p seg
is_first code p seg h = record { wrote = h.wrote; printed = h.printed; ran = h.ran; next = first_stops code p seg.next h.next }

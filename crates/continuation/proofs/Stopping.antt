-- What one operation leaves of a segment: it is under way, or it stops there.
use Rattle.std.proofs.Common.{◌≡◌, ℕ, zero, suc, ◌+◌, ◌≤◌, List, [], ◌∷◌, ◌++◌, reverse, Option, Some, None, refl, sym, ap, subst, ◌∙◌, ℤ, arith, zero-add}
use Rattle.morty_base.specs.declared.names.Key.{Key}
use Rattle.morty_base.specs.declared.names.Ending.{Ending}
use Rattle.txn_lang.specs.Keys.{Entry, entry, found}
use Rattle.txn_lang.specs.Actions.{Actions}
use Rattle.txn_lang.specs.Runs.{Run, run, next_answer}
use Rattle.std.specs.Option.{option_or}
use Rattle.txn_lang.proofs.Entries.{found-append}
use Rattle.flat_code.specs.declared.code.TheConstants.{MOST_OPERATIONS}
use Rattle.flat_code.specs.declared.frame.Frame.{Frame}
use Rattle.flat_code.specs.declared.frame.OpOut.{OpOut}
use Rattle.flat_code.specs.declared.frame.OpOut.TheVariants as out
use Rattle.flat_code.specs.Operation.{Operation, Flat}
use Rattle.flat_code.specs.Step.{Step, gives, answered}
use Rattle.flat_code.specs.Does.{fetched, DoesFrom, performed_at, performed, ticks, answered_at, Does, IsPlace, IsReached, Awaits, IsAsking}
use Rattle.flat_code.proofs.Places.{reached_place}
use Rattle.flat_code.proofs.Asking.{asks_there}
use Rattle.continuation.specs.declared.segment.Next.TheVariants as next
use Rattle.continuation.specs.Reaching.{asked, place_by, place_within, ComesTo}
use Rattle.continuation.specs.Place.{cont_of, KnowsAs}
use Rattle.continuation.specs.Segment.{alone, IsSegment}
use Rattle.continuation.specs.Underway.{SoFar, known_now, Underway, Reaches}
use Rattle.continuation.proofs.Moving.{append_none, zero_more, from_nothing, known_with, ticked, with_write, with_line, step_on, went_on, wrote_on, printed_on, known_on, asked_on, ended_on}

abbrev so_far : List Entry → List ℤ → ℕ → SoFar
so_far wrote printed ran = record { wrote = wrote; printed = printed; ran = ran }

-- nothing is done yet
pub begun_now : (code : Flat) (f : Frame) (a : Actions) (known : List Entry) → Does code f a → Reaches code f 0 f (so_far [] [] 0) a known
begun_now code f a known h = record {
  under = record { left = h.left; few = omega (arith, h.few); rest = a; does = h.does; same = λ answers. from_nothing (run next_answer a known answers) };
  comes = λ n answers. ap (λ m. place_within code m f known answers) (sym (zero_more n));
}

pub reached : (code : Flat) (f : Frame) (a : Actions) → Does code f a → IsReached code f
reached code f a h = record { left = h.left; rest = a; does = h.does }

-- what a segment under way has to do
pub to_do : (code : Flat) (start : Frame) (i : ℕ) (f : Frame) (d : SoFar) (a : Actions) (known : List Entry) → Reaches code start i f d a known →
    (b : Actions) × Does code f b
to_do code start i f d a known r = (r.under.rest, record { left = r.under.left; few = omega (arith, r.under.few); does = r.under.does })

some_left : (code : Flat) (n i : ℕ) (f : Frame) (a : Actions) → n + i ≤ MOST_OPERATIONS → DoesFrom code n f a → MOST_OPERATIONS ≤ i → ⊥
some_left code zero i f a few d h = d
some_left code (suc n) i f a few d h = omega arith

-- a segment stops within the most operations
pub not_over : (code : Flat) (start : Frame) (i : ℕ) (f : Frame) (d : SoFar) (a : Actions) (known : List Entry) → Reaches code start i f d a known →
    MOST_OPERATIONS ≤ i → ⊥
not_over code start i f d a known r h = some_left code r.under.left i f r.under.rest r.under.few r.under.does h

module _
    (code : Flat) (start : Frame) (i : ℕ) (f at : Frame) (d : SoFar) (ran : ℕ) (a : Actions) (known : List Entry)
    (r : Reaches code start i f d a known) (t : ran ≡ d.ran + ticks code f) where
  abbrev u : Underway code i f d a known
  u = r.under

  -- from where the segment began the code goes on as it does after this operation
  comes_by : (what : OpOut) → performed code f ≡ gives what at → (n : ℕ) (answers : List ℤ) →
      place_within code (n + (i + 1)) start known answers ≡ place_by code (place_within code n) what at (known_now known d) answers
  comes_by what e n answers =
      let one : n + (i + 1) ≡ suc n + i = omega arith in
      ap (λ m. place_within code m start known answers) one
      ∙ r.comes (suc n) answers
      ∙ ap (λ (s : Step). place_by code (place_within code n) s.out s.at (known_now known d) answers) e

  abbrev now : SoFar
  now = so_far d.wrote d.printed ran

  abbrev then : SoFar
  then = ticked d (ticks code f)

  counted : now ≡ then
  counted = ap (so_far d.wrote d.printed) t

  pub went : performed code f ≡ gives out.Went at → Reaches code start (i + 1) at now a known
  went e =
      let l = step_on code i f out.Went at d a known u e in
      record {
        under = subst (λ s. Underway code (i + 1) at s a known) (sym counted)
            (went_on code l.left (i + 1) l.few l.stepped.o at then a known l.stepped.entered);
        comes = comes_by out.Went e;
      }

  pub wrote : (w : Entry) (all : List Entry) → all ≡ d.wrote ++ w ∷ [] → performed code f ≡ gives (out.Wrote w) at →
      Reaches code start (i + 1) at (so_far all d.printed ran) a known
  wrote w all is e =
      let l = step_on code i f (out.Wrote w) at d a known u e in
      let same : so_far all d.printed ran ≡ with_write then w = ap (λ ws. so_far ws d.printed ran) is ∙ ap (so_far (d.wrote ++ w ∷ []) d.printed) t in
      record {
        under = subst (λ s. Underway code (i + 1) at s a known) (sym same)
            (wrote_on code l.left (i + 1) l.few l.stepped.o at w then a known l.stepped.entered);
        comes = λ n answers.
            comes_by (out.Wrote w) e n answers
            ∙ ap (λ es. place_within code n at es answers) (known_with known d w ∙ ap (λ ws. reverse ws ++ known) (sym is));
      }

  pub printed : (x : ℤ) (all : List ℤ) → all ≡ d.printed ++ x ∷ [] → performed code f ≡ gives (out.Printed x) at →
      Reaches code start (i + 1) at (so_far d.wrote all ran) a known
  printed x all is e =
      let l = step_on code i f (out.Printed x) at d a known u e in
      let same : so_far d.wrote all ran ≡ with_line then x = ap (λ ls. so_far d.wrote ls ran) is ∙ ap (so_far d.wrote (d.printed ++ x ∷ [])) t in
      record {
        under = subst (λ s. Underway code (i + 1) at s a known) (sym same)
            (printed_on code l.left (i + 1) l.few l.stepped.o at x then a known l.stepped.entered);
        comes = comes_by (out.Printed x) e;
      }

  -- an operation that asks stands there still
  there : (o : Operation) (k : Key) → fetched code f.pc ≡ Some o → performed code f ≡ gives (out.Asks k) at → at ≡ f
  there o k h e = (asks_there o f at k (sym (ap (λ x. performed_at x f) h) ∙ e)).stays

  pub showed : (k : Key) (x : ℤ) (g : Frame) → found (known_now known d) k ≡ Some x → performed code f ≡ gives (out.Asks k) at →
      g ≡ answered_at (fetched code at.pc) at x → Reaches code start (i + 1) g now a known
  showed k x g h e is =
      let l = step_on code i f (out.Asks k) at d a known u e in
      let o = l.stepped.o in
      let here : fetched code at.pc ≡ Some o = ap (λ (p : Frame). fetched code p.pc) (there o k l.stepped.there e) ∙ l.stepped.there in
      record {
        under = subst (λ p. Underway code (i + 1) p now a known) (sym (is ∙ ap (λ z. answered_at z at x) here))
            (subst (λ s. Underway code (i + 1) (answered o at x) s a known) (sym counted)
            (known_on code l.left (i + 1) l.few o at k x then a known h l.stepped.entered));
        comes = λ n answers.
            comes_by (out.Asks k) e n answers
            ∙ ap (λ v. asked (λ y. place_within code n (answered_at (fetched code at.pc) at y)) at k v (known_now known d) answers) h
            ∙ ap (λ p. place_within code n p (known_now known d) answers) (sym is);
      }

  pub ends : (how : Ending) → performed code f ≡ gives (out.Ends how) at →
      IsSegment code start a known (record { next = next.Ends how; wrote = d.wrote; printed = d.printed; ran = ran })
  ends how e =
      let l = step_on code i f (out.Ends how) at d a known u e in
      let s = ended_on code l.left l.stepped.o at how then a known l.stepped.entered in
      record {
        wrote = ap (λ (r : Run). r.writes) s ∙ sym (append_none d.wrote);
        printed = ap (λ (r : Run). r.out) s ∙ sym (append_none d.printed);
        ran = ap (λ (r : Run). r.begun) s ∙ sym (zero_more (d.ran + ticks code f)) ∙ sym t;
        next = ap (λ (r : Run). r.ending) s;
      }

  -- the operation at a read, and what the code does with its answer
  awaits : (n : ℕ) (o : Operation) (k : Key) (next : ℤ → Actions) → n ≤ MOST_OPERATIONS → fetched code f.pc ≡ Some o →
      performed code f ≡ gives (out.Asks k) at → ((x : ℤ) → DoesFrom code n (answered o at x) (next x)) → Awaits code at k next
  awaits n o k next few h e does =
      let stays = there o k h e in
      let here : fetched code at.pc ≡ Some o = ap (λ (p : Frame). fetched code p.pc) stays ∙ h in
      let place = reached_place code f (record { left = u.left; rest = u.rest; does = u.does }) in
      record {
        place = subst (IsPlace code) (sym stays) place;
        asks = subst (λ p. performed code p ≡ gives (out.Asks k) p) (sym stays) (e ∙ ap (gives (out.Asks k)) stays);
        does = λ x. record { left = n; few = few; does = subst (λ z. DoesFrom code n (answered_at z at x) (next x)) (sym here) (does x) };
      }

  comes_there : (k : Key) → found (known_now known d) k ≡ None → performed code f ≡ gives (out.Asks k) at →
      known_now known d ≡ (alone a known).known → ComesTo code start known [] k (alone a known).known at
  comes_there k h e same =
      let by = λ (n : ℕ) (answers : List ℤ).
      comes_by (out.Asks k) e n answers
      ∙ ap (λ v. asked (λ y. place_within code n (answered_at (fetched code at.pc) at y)) at k v (known_now known d) answers) h in
      record {
        count = i + 1;
        here = ap (λ m. place_within code m start known []) (sym (zero-add (i + 1))) ∙ by 0 [];
        onward = λ n x further.
            by n (x ∷ further) ∙ ap (λ es. place_within code n (answered_at (fetched code at.pc) at x) (entry k x ∷ es) further) same;
      }

  pub asks : (k : Key) → found (known_now known d) k ≡ None → performed code f ≡ gives (out.Asks k) at →
      IsSegment code start a known (record { next = next.Asks k (cont_of at); wrote = d.wrote; printed = d.printed; ran = ran })
  asks k h e =
      let l = step_on code i f (out.Asks k) at d a known u e in
      let s = asked_on code l.left l.stepped.o at k then a known h l.stepped.entered in
      let few : l.left ≤ MOST_OPERATIONS = omega (arith, l.few) in
      record {
        wrote = ap (λ (r : Run). r.writes) s.stopped ∙ sym (append_none d.wrote);
        printed = ap (λ (r : Run). r.out) s.stopped ∙ sym (append_none d.printed);
        ran = ap (λ (r : Run). r.begun) s.stopped ∙ sym (zero_more (d.ran + ticks code f)) ∙ sym t;
        next = record {
          asks = ap (λ (r : Run). r.asks) s.stopped;
          goes = s.goes;
          awaits = awaits l.left l.stepped.o k s.goes.next few l.stepped.there e s.does;
          comes = comes_there k h e (sym (ap (λ (r : Run). r.known) s.stopped));
        };
      }

  pub asking : (k : Key) → performed code f ≡ gives (out.Asks k) at → IsAsking code at
  asking k e =
      let l = step_on code i f (out.Asks k) at d a known u e in
      let after = l.stepped.entered.after in
      let few : l.left ≤ MOST_OPERATIONS = omega (arith, l.few) in
      record { key = k; next = after.0; awaits = awaits l.left l.stepped.o k after.0 few l.stepped.there e after.2 }

-- one more operation begins no more statements than the whole run
pub begun_most : (code : Flat) (start : Frame) (i : ℕ) (f : Frame) (d : SoFar) (a : Actions) (known : List Entry) → Reaches code start i f d a known →
    d.ran + ticks code f ≤ (alone a known).begun
begun_most code start i f d a known r =
    let s = performed code f in
    let l = step_on code i f s.out s.at d a known r.under refl in
    let e : (alone a known).begun ≡ d.ran + ticks code f + (run next_answer l.stepped.entered.rest (known_now known (ticked d (ticks code f))) []).begun =
    ap (λ (r : Run). r.begun) (l.stepped.entered.same []) in
    omega arith

-- what is shown is what the definitions know
pub shown_now : (wrote seen known : List Entry) (k : Key) (o : Option ℤ) → KnowsAs seen known → o ≡ option_or (found (reverse wrote) k) (found seen k) →
    found (reverse wrote ++ known) k ≡ o
shown_now wrote seen known k o knows h =
    found-append (reverse wrote) known k ∙ ap (option_or (found (reverse wrote) k)) (sym (knows.same k)) ∙ sym h

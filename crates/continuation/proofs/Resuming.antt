-- A segment from the place after an answer is the one that follows it.
use Rattle.std.proofs.Common.{◌≡◌, ℕ, ◌+◌, arith, List, [], ◌∷◌, ◌++◌, sym, ap, subst, ◌∙◌, ℤ}
use Rattle.morty_base.specs.declared.names.Key.{Key}
use Rattle.morty_base.specs.Names.{same_key}
use Rattle.txn_lang.specs.Keys.{Entry, entry, first_of}
use Rattle.txn_lang.specs.Actions.{Actions}
use Rattle.txn_lang.specs.Program.{replay_of}
use Rattle.txn_lang.specs.Runs.{Run}
use Rattle.flat_code.specs.declared.frame.Frame.{Frame}
use Rattle.flat_code.specs.declared.frame.OpOut.TheVariants.{Asks}
use Rattle.flat_code.specs.Operation.{Flat}
use Rattle.flat_code.specs.Step.{Step, gives}
use Rattle.flat_code.specs.Does.{fetched, performed, answered_at, Does}
use Rattle.continuation.specs.declared.segment.Cont.{Cont}
use Rattle.continuation.specs.declared.segment.Seg.{Seg}
use Rattle.continuation.specs.Place.{frame_of, KnowsAs, Question, StandsFor}
use Rattle.continuation.specs.declared.segment.JobAt.{JobAt}
use Rattle.continuation.specs.declared.segment.JobAt.TheVariants.{Start, From}
use Rattle.continuation.specs.Segment.{alone, IsSegment, IsSuffix}
use Rattle.continuation.specs.Job.{CountsAtMost}
use Rattle.continuation.proofs.Suffix.{more, is_suffix}

-- the frame of a copied place
pub copied : (cont : Cont) (loops : List ℕ) (locals : List ℤ) → loops ≡ cont.loops → locals ≡ cont.locals →
    record { pc = cont.pc; loops = loops; locals = locals } ≡ frame_of cont
copied cont loops locals same_loops same_locals =
    ap (λ ls. frame_of (record cont { loops = ls; locals = locals })) same_loops ∙ ap (λ xs. frame_of (record cont { locals = xs })) same_locals

-- a run that is not begun counts nothing
pub none_counted : (code : Flat) (at : JobAt) (old : ℕ) → CountsAtMost code at old old
none_counted code Start old = λ p is. omega arith
none_counted code (From cont value known) old = λ q s.
    let before = replay_of q.program q.answers in
    let next = alone (s.at.goes.next value) (entry q.key value ∷ before.known) in
    let e : (replay_of q.program (q.answers ++ value ∷ [])).begun ≡ before.begun + next.begun =
    ap (λ (r : Run). r.begun) (more q.program q.answers q.key value s.at.goes) in
    omega arith

-- a place asks for one key
one_key : (code : Flat) (f : Frame) (j k : Key) → performed code f ≡ gives (Asks j) f → performed code f ≡ gives (Asks k) f → j ≡ k
one_key code f j k e h = let same : Asks j ≡ Asks k = ap (λ (s : Step). s.out) (sym e ∙ h) in cc

-- with the answer before them, the known entries show what the replay knows then
knows_answer : (known shown : List Entry) (k : Key) (x : ℤ) → KnowsAs known shown → KnowsAs (entry k x ∷ known) (entry k x ∷ shown)
knows_answer known shown k x h = record { same = λ j. ap (first_of (same_key k j) x) (h.same j) }

-- the place that resumes at a question, and what it has seen
pub record Resumes (code : Flat) (cont : Cont) (known : List Entry) (value : ℤ) (f g : Frame) (key : Key) (seen : List Entry) : Type 0 where
  pub place : f ≡ frame_of cont
  pub asks : performed code f ≡ gives (Asks key) f
  pub goes : g ≡ answered_at (fetched code f.pc) f value
  pub sees : seen ≡ entry key value ∷ known

module _
    (code : Flat) (cont : Cont) (known : List Entry) (value : ℤ) (f g : Frame) (key : Key) (seen : List Entry)
    (r : Resumes code cont known value f g key seen) (q : Question) (s : StandsFor code q cont known) where
  asked : key ≡ q.key
  asked = one_key code f key q.key r.asks (subst (λ p. performed code p ≡ gives (Asks q.key) p) (sym r.place) s.at.awaits.asks)

  from : g ≡ answered_at (fetched code (frame_of cont).pc) (frame_of cont) value
  from = r.goes ∙ ap (λ p. answered_at (fetched code p.pc) p value) r.place

  does : Does code g (s.at.goes.next value)
  does = subst (λ p. Does code p (s.at.goes.next value)) (sym from) (s.at.awaits.does value)

  knows : KnowsAs seen (entry q.key value ∷ (replay_of q.program q.answers).known)
  knows =
      subst (λ es. KnowsAs es (entry q.key value ∷ (replay_of q.program q.answers).known)) (sym (r.sees ∙ ap (λ k. entry k value ∷ known) asked))
      (knows_answer known (replay_of q.program q.answers).known q.key value s.knows)

  pub resumed : (seg : Seg) → ((a : Actions) (known : List Entry) → Does code g a → KnowsAs seen known → IsSegment code g a known seg) →
      IsSuffix code q.program q.answers value seg
  resumed seg h =
      let shown = entry q.key value ∷ (replay_of q.program q.answers).known in
      is_suffix q.program q.answers q.key value s.at.goes code (frame_of cont) s.at.comes seg
      (subst (λ f. IsSegment code f (s.at.goes.next value) shown seg) from (h (s.at.goes.next value) shown does knows))

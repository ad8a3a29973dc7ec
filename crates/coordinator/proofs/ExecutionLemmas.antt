-- An execution goes on standing for its program, whatever is done to its log.
use Rattle.std.proofs.Common.{◌≡◌, ℕ, zero, suc, ◌<◌, Bool, true, false, List, [], ◌∷◌, length, Option, Some, None, refl, ap, sym, subst, ◌∙◌, arith}
use Rattle.std.specs.Prelude.{IsSome, is_none, slice_get}
use Rattle.txn_lang.specs.Program.{Program}
use Rattle.flat_code.specs.Operation.{Flat}
use Rattle.continuation.specs.declared.segment.JobAt.{JobAt}
use Rattle.continuation.specs.declared.segment.JobAt.TheVariants.{Start, From}
use Rattle.continuation.specs.declared.segment.Next.{Next}
use Rattle.continuation.specs.declared.segment.Seg.{Seg}
use Rattle.continuation.specs.Job.{IsJobRun}
use Rattle.exec_log.specs.declared.read.LogRead.{LogRead}
use Rattle.exec_log.specs.Log.{Log, answers_in, answers_of as log_answers, asked_by, labelled_at, labelled}
use Rattle.exec_log.specs.Standing as log
use Rattle.exec_log.specs.Standing.{IsLastJob, IsLastRun}
use Rattle.exec_log.proofs.LastJobs.{last_run}
use Rattle.protocol.specs.Words.{Wid}
use Rattle.coordinator.specs.Execution.{Loaded, StandsFor, IsUnbegun}
use Rattle.coordinator.specs.declared.execution.Execution.{Execution}

-- the log waits for a segment
pub waits : {A : Type 0} (o : Option A) → is_none o ≡ true → o ≡ None
waits None e = refl
waits (Some a) e = cc

pub some_not_none : {A : Type 0} (o : Option A) (a : A) → o ≡ Some a → o ≡ None → ⊥
some_not_none o a e f = cc

asks_something : (n : Option Next) → IsSome (asked_by n) → n ≡ None → ⊥
asks_something None h e = cc (h)
asks_something (Some n) h e = cc

-- an execution that asks was begun
pub asking_is_begun : (e : Execution) → IsSome (asked_by e.log.next) → IsUnbegun e → ⊥
asking_is_begun e h u = asks_something e.log.next h u.next

-- so was one that has a read
pub reading_is_begun : (e : Execution) (i : ℕ) → e.log.broken ≡ false → (e.log.broken ≡ false → i < length e.log.reads) → IsUnbegun e → ⊥
reading_is_begun e i w h u = omega (arith, h w, ap length u.reads)

-- it takes the segment of its job
pub stands_taken : (l : Loaded) (e e' : Execution) (seg : Seg) (n : Next) → StandsFor (Some l) e → e.log.next ≡ None → IsJobRun l.code e.job seg →
    ((code : Flat) (p : Program) → log.StandsFor code p e.log → IsLastRun code p e.log seg → log.StandsFor code p e'.log) →
    e'.log.next ≡ Some n → e'.log.broken ≡ false → StandsFor (Some l) e'
stands_taken l e e' seg n s none run goes next whole = record {
  whole = whole;
  follows = record {
    log = goes l.code l.program s.follows.log (last_run l.code l.program e.log e.job seg l.is_code (s.follows.job none) run);
    job = λ waiting. absurd (some_not_none e'.log.next n next waiting);
  };
}

-- it has a new job
pub stands_answered : (o : Option Loaded) (e e' : Execution) → StandsFor o e → (IsUnbegun e → ⊥) →
    ((code : Flat) (p : Program) → log.StandsFor code p e.log → log.StandsFor code p e'.log) →
    ((code : Flat) (p : Program) → log.StandsFor code p e.log → IsLastJob code p e'.log e'.job) →
    e'.log.broken ≡ false → StandsFor o e'
stands_answered None e e' s begun goes job whole = absurd (begun s.follows)
stands_answered (Some l) e e' s begun goes job whole = record {
  whole = whole;
  follows = record { log = goes l.code l.program s.follows.log; job = λ waiting. job l.code l.program s.follows.log };
}

-- other labels leave the answers
pub labelled_more : (o : Option LogRead) (r : LogRead) (reads : List LogRead) (i : ℕ) (wid : Wid) (sure : Bool) →
    labelled_at o (r ∷ reads) (suc i) wid sure ≡ r ∷ labelled_at o reads i wid sure
labelled_more None r reads i wid sure = refl
labelled_more (Some x) r reads i wid sure = refl

pub labelled_answers : (reads : List LogRead) (i : ℕ) (wid : Wid) (sure : Bool) → answers_in (labelled reads i wid sure) ≡ answers_in reads
labelled_answers [] i wid sure = refl
labelled_answers (r ∷ reads) zero wid sure = refl
labelled_answers (r ∷ reads) (suc i) wid sure =
    ap answers_in (labelled_more (slice_get reads i) r reads i wid sure) ∙ ap (λ vs. r.value ∷ vs) (labelled_answers reads i wid sure)

last_relabelled : (code : Flat) (p : Program) (l l' : Log) (at : JobAt) → log_answers l' ≡ log_answers l → (l.reads ≡ [] → ⊥) →
    IsLastJob code p l at → IsLastJob code p l' at
last_relabelled code p l l' Start same some last = absurd (some last)
last_relabelled code p l l' (From cont given known) same some last = (last.0, last.1, same ∙ last.2, last.3)

-- a read has another label
pub stands_relabelled : (o : Option Loaded) (e e' : Execution) (i : ℕ) (wid : Wid) (sure : Bool) → (e.log.broken ≡ false → i < length e.log.reads) → StandsFor o e →
    ((code : Flat) (p : Program) → log.StandsFor code p e.log → log.StandsFor code p e'.log) →
    (e.log.broken ≡ false → e'.log ≡ record e.log { reads = labelled e.log.reads i wid sure }) → e'.job ≡ e.job → StandsFor o e'
stands_relabelled None e e' i wid sure h s goes is same = absurd (reading_is_begun e i s.whole h s.follows)
stands_relabelled (Some l) e e' i wid sure h s goes is same =
    let new = is s.whole in
    record {
      whole = ap (λ (x : Log). x.broken) new ∙ s.whole;
      follows = record {
        log = goes l.code l.program s.follows.log;
        job = λ waiting. subst (IsLastJob l.code l.program e'.log) (sym same)
            (last_relabelled l.code l.program e.log e'.log e.job (ap log_answers new ∙ labelled_answers e.log.reads i wid sure)
            (λ none. omega (arith, h s.whole, ap length none)) (s.follows.job (sym (ap (λ (x : Log). x.next) new) ∙ waiting)));
      };
    }

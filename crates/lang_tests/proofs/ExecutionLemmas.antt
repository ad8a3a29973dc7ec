-- A log stands for its program from one job to the next.
use Rattle.std.proofs.Common.{◌≡◌, List, [], ◌∷◌, Some, None, false, ap, subst, ◌∙◌}
use Rattle.std.specs.Prelude.{slice_get}
use Rattle.txn_lang.specs.Program.{Program}
use Rattle.flat_code.specs.Operation.{Flat}
use Rattle.flat_code.specs.Does.{IsCodeOf}
use Rattle.continuation.specs.declared.segment.Job.{Job}
use Rattle.continuation.specs.declared.segment.JobAt.{JobAt}
use Rattle.continuation.specs.declared.segment.JobAt.TheVariants.{Start}
use Rattle.continuation.specs.declared.segment.Seg.{Seg}
use Rattle.continuation.specs.Job.{IsJobRun, FitsCodes}
use Rattle.exec_log.specs.Log.{Log, fresh_log}
use Rattle.exec_log.specs.Standing.{StandsFor, IsLastRun, IsLastJob}
use Rattle.exec_log.proofs.LastJobs.{last_fits, last_run}
use Rattle.lang_tests.specs.Execution.{Stands, IsPending}

pub only_code : (codes : List Flat) (a b : Flat) → codes ≡ a ∷ [] → slice_get codes 0 ≡ Some b → b ≡ a
only_code codes a b is there = let h : Some a ≡ Some b = subst (λ cs. slice_get cs 0 ≡ Some b) is there in cc

-- the last job fits the code
pub fits_only : (codes : List Flat) (code shared : Flat) (l : Log) (j : Job) → IsPending code l j.at → codes ≡ shared ∷ [] → shared ≡ code → j.prog ≡ 0 →
    FitsCodes codes j
fits_only codes code shared l j pending is same first = record {
  code = code;
  there = ap (slice_get codes) first ∙ ap (λ cs. slice_get cs 0) is ∙ ap Some same;
  fits = last_fits code pending.stands.program l j.at pending.stands.flat pending.last;
}

-- the segment of the last job is taken
pub stands_again : (code ran : Flat) (l l' : Log) (at from : JobAt) (seg : Seg) → IsPending code l at → ran ≡ code → from ≡ at → IsJobRun ran from seg →
    ((c : Flat) (p : Program) → StandsFor c p l → IsLastRun c p l seg → StandsFor c p l') → l'.broken ≡ false → Stands code l'
unfolding Stands
stands_again code ran l l' at from seg pending same begun run taken whole =
    let s = pending.stands in
    let run' : IsJobRun code at seg = subst (λ c. IsJobRun c at seg) same (subst (λ a. IsJobRun ran a seg) begun run) in
    record {
      program = s.program;
      flat = s.flat;
      log = taken code s.program s.log (last_run code s.program l at seg s.flat pending.last run');
      whole = whole;
    }

pub pending_first : (code : Flat) (p : Program) (l : Log) → IsCodeOf code p → l ≡ fresh_log → StandsFor code p l → IsPending code l Start
pending_first code p l flat fresh stands = record {
  stands = record { program = p; flat = flat; log = stands; whole = ap (λ (x : Log). x.broken) fresh };
  last = ap (λ (x : Log). x.reads) fresh;
  next = ap (λ (x : Log). x.next) fresh;
}

pub pending_next : (code : Flat) (l l' : Log) (at : JobAt) → Stands code l → ((c : Flat) (p : Program) → StandsFor c p l → StandsFor c p l') →
    ((c : Flat) (p : Program) → StandsFor c p l → IsLastJob c p l' at) → l'.next ≡ None → l'.broken ≡ false → IsPending code l' at
unfolding Stands
pending_next code l l' at s stands last next whole = record {
  stands = record { program = s.program; flat = s.flat; log = stands code s.program s.log; whole = whole };
  last = last code s.program s.log;
  next = next;
}

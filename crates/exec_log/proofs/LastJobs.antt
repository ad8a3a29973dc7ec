-- The last job of a log fits the code of its program, and its run is the segment that the log takes.
use Rattle.std.proofs.Common.{subst, inl, inr}
use Rattle.txn_lang.specs.Program.{Program}
use Rattle.flat_code.specs.Operation.{Flat}
use Rattle.flat_code.specs.Does.{IsCodeOf}
use Rattle.continuation.specs.declared.segment.JobAt.{JobAt}
use Rattle.continuation.specs.declared.segment.JobAt.TheVariants.{Start, From}
use Rattle.continuation.specs.declared.segment.Seg.{Seg}
use Rattle.continuation.specs.Job.{IsJobRun, FitsCode}
use Rattle.continuation.specs.Segment.{IsSuffix}
use Rattle.exec_log.specs.Log.{Log}
use Rattle.exec_log.specs.Standing.{IsLastJob, IsLastRun, question}

pub last_fits : (code : Flat) (p : Program) (l : Log) (at : JobAt) → IsCodeOf code p → IsLastJob code p l at → FitsCode code at
last_fits code p l Start is last = (p, is)
last_fits code p l (From cont given known) is last =
    let goes = last.3 in
    (question p last.0 goes.2.0, is, goes.2.1)

pub last_run : (code : Flat) (p : Program) (l : Log) (at : JobAt) (seg : Seg) → IsCodeOf code p → IsLastJob code p l at → IsJobRun code at seg →
    IsLastRun code p l seg
last_run code p l Start seg is last run = inl (last, run p is)
last_run code p l (From cont given known) seg is last run =
    let goes = last.3 in
    inr (last.0, last.1, last.2, subst (λ v. IsSuffix code p last.0 v seg) goes.0 (run (question p last.0 goes.2.0) goes.2.1))

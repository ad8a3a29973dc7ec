-- For what the log of an execution stands, beside its code.
use Rattle.std.specs.Prelude.{◌≡◌, false, None}
use Rattle.txn_lang.specs.Program.{Program}
use Rattle.flat_code.specs.Operation.{Flat}
use Rattle.flat_code.specs.Does.{IsCodeOf}
use Rattle.continuation.specs.declared.segment.JobAt.{JobAt}
use Rattle.exec_log.specs.Log.{Log}
use Rattle.exec_log.specs.Standing.{StandsFor, IsLastJob}

-- the log stands for a program whose code this is, and is not broken
pub record Standing (code : Flat) (l : Log) : Type 0 where
  pub program : Program
  pub flat : IsCodeOf code program
  pub log : StandsFor code program l
  pub whole : l.broken ≡ false

-- a name for it, whose parts no tactic looks at
unfoldable pub Stands : Flat → Log → Type 0
Stands code l = Standing code l

-- the log's last job is to be run from there
pub record IsPending (code : Flat) (l : Log) (at : JobAt) : Type 0 where
  pub stands : Standing code l
  pub last : IsLastJob code stands.program l at
  pub next : l.next ≡ None

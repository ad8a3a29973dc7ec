-- At most one execution of a transaction commits.
use Rattle.std.specs.Prelude.{◌≡◌}
use Rattle.protocol.specs.Words.{Exec}
use Rattle.protocol.specs.Client.State.{Attempt}
use Rattle.protocol.specs.World.State.{Plan, World}
use Rattle.protocol.specs.World.Decided.{Committed, IsOf}
use Rattle.protocol.specs.Always.{Always}

-- of all executions of all tries of a transaction at most one is committed
abbrev pub OneExecutionOf : Plan → World → Type 0
OneExecutionOf p w = (x y : Exec) (a b : Attempt) → Committed w x → Committed w y → IsOf w x a → IsOf w y b →
    x.ver.client ≡ y.ver.client → a.txn ≡ b.txn → x ≡ y

abbrev pub OneExecution : Type 0
OneExecution = Always OneExecutionOf

-- the one try that an execution is of
pub record HasOneTry (w : World) (x : Exec) : Type 0 where
  pub attempt : Attempt
  pub of_attempt : IsOf w x attempt
  pub one : (b : Attempt) → IsOf w x b → b ≡ attempt

-- each committed execution is one of just one try
abbrev pub OneTryOf : Plan → World → Type 0
OneTryOf p w = (x : Exec) → Committed w x → HasOneTry w x

abbrev pub OneTry : Type 0
OneTry = Always OneTryOf

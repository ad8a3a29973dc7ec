-- The list of the committed executions of a world.
use Rattle.std.specs.Prelude.{◌≡◌, List}
use Rattle.protocol.specs.Words.{Exec, Prepare, exec_before}
use Rattle.protocol.specs.Lists.{IsIn, IsRisingBy}
use Rattle.protocol.specs.Client.State.{Attempt}
use Rattle.protocol.specs.World.State.{Plan, World}
use Rattle.protocol.specs.World.Decided.{WasSent, Committed, IsOf}
use Rattle.protocol.specs.World.Committed.{CommittedExec, committed_executions}
use Rattle.protocol.specs.Always.{Always}

-- executions stand in rising order of version and then number
abbrev pub IsRisingByExec : List CommittedExec → Type 0
IsRisingByExec cs = IsRisingBy (λ c d. exec_before c.exec d.exec) cs

-- a committed execution with the content of its Prepare, its transaction and its try
pub record IsCommittedAs (w : World) (c : CommittedExec) : Type 0 where
  pub committed : Committed w c.exec
  pub prepared : WasSent w (Prepare c.exec c.content)
  pub attempt : Attempt
  pub of_attempt : IsOf w c.exec attempt
  pub txn : c.txn ≡ attempt.txn
  pub try : c.try ≡ attempt.try

-- the list has the committed executions and nothing else, in rising order, each once
pub record IsCommittedList (w : World) (cs : List CommittedExec) : Type 0 where
  pub rising : IsRisingByExec cs
  pub only : (c : CommittedExec) → IsIn c cs → IsCommittedAs w c
  pub all : (x : Exec) → Committed w x → (c : CommittedExec) × IsIn c cs × (c.exec ≡ x)

-- the list of the committed executions of a world is just the one list that has them
pub record CommittedListOf (p : Plan) (w : World) : Type 0 where
  pub holds : IsCommittedList w (committed_executions p w)
  pub one : (cs : List CommittedExec) → IsCommittedList w cs → cs ≡ committed_executions p w

abbrev pub CommittedList : Type 0
CommittedList = Always CommittedListOf

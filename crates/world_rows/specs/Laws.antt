-- Of which executions Commit is told.
use Rattle.std.specs.Prelude.{◌≡◌}
use Rattle.protocol.specs.Words.{Exec}
use Rattle.protocol.specs.World.State.{Plan, World}
use Rattle.protocol.specs.World.Committed.{is_committed}
use Rattle.protocol.specs.Always.{Always}
use Rattle.world_rows.specs.Notes.{is_told}

-- a Decide of Commit is in the mail of just the committed executions
abbrev pub CommitsAreToldOf : Plan → World → Type 0
CommitsAreToldOf p w = (x : Exec) → is_committed p w x ≡ is_told w.mail x

abbrev pub CommitsAreTold : Type 0
CommitsAreTold = Always CommitsAreToldOf

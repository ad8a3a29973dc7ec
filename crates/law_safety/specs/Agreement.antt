-- What nodes decide: alike, for good, and never Commit on two executions in conflict.
use Rattle.std.specs.Prelude.{◌≡◌, ◌≢◌, false, List, Some}
use Rattle.protocol.specs.Words.{Exec, NodeId, Choice, Abandon, ToCommit, Content, Prepare, Event}
use Rattle.protocol.specs.Replica.Votes.{conflicts}
use Rattle.protocol.specs.World.State.{Plan, World}
use Rattle.protocol.specs.World.Events.{replay_from}
use Rattle.protocol.specs.World.Decided.{decided_by, WasSent, Committed}
use Rattle.protocol.specs.Always.{Always}

-- no execution is decided Abandon at one node and Commit at another
abbrev pub AgreementOf : Plan → World → Type 0
AgreementOf p w = (x : Exec) (a b : NodeId) → decided_by w a x ≡ Some Abandon → decided_by w b x ≢ Some ToCommit

abbrev pub Agreement : Type 0
Agreement = Always AgreementOf

-- what a node decided or learnt of an execution stays, whatever happens next
abbrev pub DecisionsStayOf : Plan → World → Type 0
DecisionsStayOf p w = (more : List Event) (n : NodeId) (x : Exec) (choice : Choice) →
    decided_by w n x ≡ Some choice → decided_by (replay_from p w more) n x ≡ Some choice

abbrev pub DecisionsStay : Type 0
DecisionsStay = Always DecisionsStayOf

-- two committed executions are not in conflict, by the contents that their clients prepared
abbrev pub NoConflictOf : Plan → World → Type 0
NoConflictOf p w = (x y : Exec) (content other : Content) → Committed w x → Committed w y →
    WasSent w (Prepare x content) → WasSent w (Prepare y other) → conflicts x.ver content y.ver other ≡ false

abbrev pub NoConflict : Type 0
NoConflict = Always NoConflictOf

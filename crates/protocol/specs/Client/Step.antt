-- The step of a client, on whatever happens to it.
use Rattle.std.specs.Prelude.{ℕ, Bool, true, false, ◌&&◌, List, [], Option, Some, None}
use Rattle.protocol.specs.Words.{NodeId, Warden, Choice, Abandon, ToCommit, Content, Body, Note, Accepted, Decide, TooOld, Voted, same_version, same_exec}
use Rattle.std.specs.Bool.{then_some}
use Rattle.protocol.specs.Client.State.{turn_when, CountedVote, ClientState, Phase, Rules, Turn, content, idle}
use Rattle.protocol.specs.Client.Counting.{hurried, counts_accept, counts_vote, propose, sender}
use Rattle.protocol.specs.Client.Attempts.{can_go, go, ran}
use Rattle.protocol.specs.Client.Deciding.{conclude, ended, give_up, noted}
use Rattle.protocol.specs.Client.Following.{note_prepared, note_running}
use Rattle.protocol.specs.Client.State.Phase.{Between, Running, Prepared}
use Rattle.protocol.specs.declared.Fate.TheVariants.{Committed, Aborted}

-- the node is a warden
abbrev pub is_warden : NodeId → Bool
is_warden (Warden k) = true
is_warden _ = false

-- a decision of a warden while nothing is prepared
abbrev pub told_running : ClientState → Choice → Turn
told_running c ToCommit = idle (ended (noted c ToCommit) Committed)
told_running c Abandon = idle (ended (noted c Abandon) Aborted)

-- what an envelope does while nothing is prepared
unfoldable pub comes_running : Rules → ClientState → Bool → NodeId → Body → Turn
comes_running rules c pending from (Note version k wid value sure gone) =
    turn_when (same_version version c.exec.ver) c (note_running rules c pending k (record { wid = wid; value = value; sure = sure }) gone)
comes_running rules c pending from (TooOld version dropped) = turn_when (same_version version c.exec.ver) c (give_up c)
comes_running rules c pending from (Decide x choice content) = turn_when (is_warden from && same_exec x c.exec) c (told_running c choice)
comes_running rules c pending from _ = idle c

-- what is counted comes from a replica
abbrev pub from_replica : ClientState → (ℕ → Turn) → Option ℕ → Turn
from_replica c f None = idle c
from_replica c f (Some k) = f k

-- what an envelope does while an execution is prepared
unfoldable pub comes_prepared : Rules → ClientState → Content → List CountedVote → Option Choice → List ℕ → NodeId → Body → Turn
comes_prepared rules c content votes proposal accepts from (Note version k wid value sure gone) =
    turn_when (same_version version c.exec.ver) c (idle (note_prepared rules c k (record { wid = wid; value = value; sure = sure }) gone))
comes_prepared rules c k votes proposal accepts from (Decide x choice content) =
    turn_when (is_warden from && same_exec x c.exec) c (conclude rules c choice [])
comes_prepared rules c content votes None accepts from (Voted x vote) =
    from_replica c (λ j. counts_vote rules c content votes x j vote) (sender rules.replicas from)
comes_prepared rules c content votes (Some d) accepts from (Accepted x view) =
    from_replica c (λ j. counts_accept rules c content votes d accepts x view j) (sender rules.replicas from)
comes_prepared rules c content votes proposal accepts from _ = idle c

-- an envelope comes; between attempts it changes nothing
unfoldable pub comes : Rules → ClientState → Phase → NodeId → Body → Turn
comes rules c Between from b = idle c
comes rules c (Running pending given) from b = comes_running rules c pending from b
comes rules c (Prepared content votes proposal accepts) from b = comes_prepared rules c content votes proposal accepts from b

-- what can happen to a client: it begins an attempt, its pending segment is given back, it waits for votes no
-- longer, an envelope comes
pub data Input : Type 0 where
  Goes : Input
  Runs : Input
  Hurries : Input
  Comes : (from : NodeId) (body : Body) → Input

-- a segment can be given back while a job is pending
unfoldable pub on_ran : Rules → ClientState → Phase → Option Turn
on_ran rules c (Running true given) = Some (ran rules c given)
on_ran rules c _ = None

-- a client can hurry while prepared, until it proposed
unfoldable pub on_hurry : Rules → ClientState → Phase → Option Turn
on_hurry rules c (Prepared content votes None accepts) = Some (propose c content votes (hurried rules.replicas votes))
on_hurry rules c _ = None

-- what happens to a client, where it can happen
unfoldable pub client_step : Rules → ClientState → Input → Option Turn
client_step rules c Goes = then_some (can_go rules c) (go rules c)
client_step rules c Runs = on_ran rules c c.phase
client_step rules c Hurries = on_hurry rules c c.phase
client_step rules c (Comes from b) = Some (comes rules c c.phase from b)

-- What is left to do once a vote or an acceptance was counted.
use Rattle.std.specs.Prelude.{◌≡◌, ℕ, List, Option, Some, None}
use Rattle.protocol.specs.Words.{Choice, Abandon, ToCommit, Content}
use Rattle.protocol.specs.Client.State as protocol
use Rattle.protocol.specs.Client.State.{ClientState, CountedVote, Turn, idle}
use Rattle.protocol.specs.Client.State.Phase.{Prepared}
use Rattle.protocol.specs.Client.Deciding.{decide}
use Rattle.protocol.specs.Client.Counting.{propose}
use Rattle.protocol.specs.declared.TallyOut.{TallyOut}
use Rattle.protocol.specs.declared.TallyOut.TheVariants.{Wait, FastCommit, FastAbandon, Propose}
use Rattle.coordinator.specs.declared.memory.Memory.{Memory}
use Rattle.coordinator.specs.Memory.{Given, StandsFor}

-- the client does what its votes call for
abbrev pub called_for : protocol.Rules → ClientState → Content → List CountedVote → TallyOut → Turn
called_for rules c content votes FastCommit = decide rules c content ToCommit
called_for rules c content votes FastAbandon = decide rules c content Abandon
called_for rules c content votes (Propose d) = propose c content votes d
called_for rules c content votes Wait = idle c

-- the client decides the choice, if there is one
abbrev pub chosen : protocol.Rules → ClientState → Content → Option Choice → Turn
chosen rules c content None = idle c
chosen rules c content (Some d) = decide rules c content d

-- of a turn of a prepared client so much is done that this is left
pub record Leaves (g : Given) (content : Content) (t : Turn) (m : Memory) (left : ClientState → List CountedVote → Turn) : Type 0 where
  pub now : ClientState
  pub votes : List CountedVote
  pub proposal : Option Choice
  pub accepts : List ℕ
  pub stands : StandsFor g now m
  pub phase : now.phase ≡ Prepared content votes proposal accepts
  pub turn : t ≡ left now votes

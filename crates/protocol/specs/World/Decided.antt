-- What is decided and committed in a world, and its base at a version.
use Rattle.std.specs.Prelude.{◌≡◌, false, List, Option, Some, option_map, find, ◌⊎◌}
use Rattle.protocol.specs.Words.{Version, Exec, NodeId, Client, Replica, Warden, Choice, ToCommit, Envelope, Content, Prepare, Finalize, Decide, Told, Fenced, Body, same_exec, before, key_before, wid_before, BaseEntry}
use Rattle.protocol.specs.Lists.{IsIn, IsRisingBy}
use Rattle.protocol.specs.Replica.Acceptor.{decided}
use Rattle.protocol.specs.Warden.State.{decision_on, DecidedProposal}
use Rattle.protocol.specs.Warden.Base.{entries_of}
use Rattle.protocol.specs.World.State.{World}
use Rattle.protocol.specs.Client.State.{Attempt}

-- what a node decided of x, or learnt as decided
abbrev pub decided_by : World → NodeId → Exec → Option Choice
decided_by w (Client c) x = option_map (λ d. d.choice) (find (λ d. same_exec x d.exec) (w.client c).decisions)
decided_by w (Replica r) x = decided (w.replica r) x
decided_by w (Warden k) x = option_map (λ (d : DecidedProposal). d.proposal.choice) (decision_on (w.warden k) x)

-- some node, stopped or not, decided x Commit or learnt it
pub record Committed (w : World) (x : Exec) : Type 0 where
  pub node : NodeId
  pub decides : decided_by w node x ≡ Some ToCommit

-- the execution is one of the try
pub record IsOf (w : World) (x : Exec) (a : Attempt) : Type 0 where
  pub begun : IsIn a (w.client x.ver.client).attempts
  pub version : a.ver ≡ x.ver

-- a body was sent
pub record WasSent (w : World) (b : Body) : Type 0 where
  pub envelope : Envelope
  pub there : IsIn envelope w.mail
  pub body : envelope.body ≡ b

-- a node sent a body
pub record WasSentBy (w : World) (n : NodeId) (b : Body) : Type 0 where
  pub envelope : Envelope
  pub there : IsIn envelope w.mail
  pub from : envelope.from ≡ n
  pub body : envelope.body ≡ b

-- a is at or below b
abbrev pub UpTo : Version → Version → Type 0
UpTo a b = before b a ≡ false

-- the body carries content k of x
abbrev pub HasContent : Body → Exec → Content → Type 0
HasContent (Prepare y c) x k = (y ≡ x) × (c ≡ k)
HasContent (Finalize y v d o) x k = (y ≡ x) × (o ≡ Some k)
HasContent (Decide y d o) x k = (y ≡ x) × (o ≡ Some k)
HasContent (Told y v vt ac de o) x k = (y ≡ x) × (o ≡ Some k)
HasContent (Fenced w b cs vs) x k = IsIn (record { exec = x; content = k }) cs ⊎ IsIn (record { exec = x; content = k }) vs
HasContent _ x k = ⊥

-- a write at or below v of a committed execution, with its name
pub record IsWrite (w : World) (v : Version) (d : BaseEntry) : Type 0 where
  pub exec : Exec
  pub content : Content
  pub committed : Committed w exec
  pub prepared : WasSent w (Prepare exec content)
  pub upto : UpTo exec.ver v
  pub entry : IsIn d (entries_of exec 1 content.writes)

-- the entries stand in rising order of key
abbrev pub IsRising : List BaseEntry → Type 0
IsRising bs = IsRisingBy (λ d e. key_before d.key e.key) bs

-- the base of a world at v: rising by key, for each key with a write at or below v the one of the greatest name
pub record IsBase (w : World) (v : Version) (bs : List BaseEntry) : Type 0 where
  pub rising : IsRising bs
  pub only : (d : BaseEntry) → IsIn d bs → IsWrite w v d
  pub greatest : (d : BaseEntry) → IsWrite w v d → (e : BaseEntry) × IsIn e bs × (e.key ≡ d.key) × (wid_before e.wid d.wid ≡ false)

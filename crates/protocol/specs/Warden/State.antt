-- A warden: what it remembers.
use Rattle.std.specs.Prelude.{ℕ, Bool, List, [], Option, find}
use Rattle.protocol.specs.Words.{Version, Exec, Vote, Choice, Accept, Content, Kept, BaseEntry, Body, same_exec}

-- what a replica told, in one view
pub record ToldAnswer : Type 0 where
  pub replica : ℕ
  pub vote : Option Vote
  pub accepted : Option Accept
  pub decided : Option Choice
  pub content : Option Content

-- a choice, and for Commit its content
pub record Proposal : Type 0 where
  pub choice : Choice
  pub content : Option Content

-- one view of an execution that this warden asks about: the Tolds that count, in order of arrival, its proposal,
-- and who accepted it
pub record Round : Type 0 where
  pub exec : Exec
  pub view : ℕ
  pub tolds : List ToldAnswer  -- the first f+1, in order of arrival
  pub proposal : Option Proposal
  pub accepts : List ℕ

-- what this warden decided of an execution
pub record DecidedProposal : Type 0 where
  pub exec : Exec
  pub proposal : Proposal

-- a Fenced that counts
pub record FencedAnswer : Type 0 where
  pub replica : ℕ
  pub base : List BaseEntry
  pub committed : List Kept
  pub voted : List Kept

-- a truncation: the Fenced that count, in order of arrival, and whether its Drop was sent
pub record Truncation : Type 0 where
  pub w : Version
  pub answers : List FencedAnswer
  pub dropped : Bool

-- what a warden remembers, of each the newest first
pub record WardenState : Type 0 where
  pub rounds : List Round  -- the newest first
  pub decisions : List DecidedProposal  -- the newest first
  pub truncations : List Truncation  -- the newest first

-- what a warden is given
pub record WardenRules : Type 0 where
  pub warden : ℕ
  pub wardens : ℕ
  pub replicas : ℕ
  pub clients : ℕ

-- what a warden sends: a body to all replicas, or to one client
pub data Parcel : Type 0 where
  To_all : (body : Body) → Parcel
  To_client : (client : ℕ) (body : Body) → Parcel

-- the next state, and what is sent, in order
pub record WardenTurn : Type 0 where
  pub state : WardenState
  pub sent : List Parcel

-- nothing changes and nothing is sent
abbrev pub still : WardenState → WardenTurn
still s = record { state = s; sent = [] }

-- what this warden decided of x
abbrev pub decision_on : WardenState → Exec → Option DecidedProposal
decision_on s x = find (λ d. same_exec x d.exec) s.decisions

-- a warden that has done nothing
abbrev pub fresh_warden : WardenState
fresh_warden = record { rounds = []; decisions = []; truncations = [] }

-- A client: its program as what it does on answers, and what it remembers.
use Rattle.std.specs.Prelude.{ℕ, ℤ, ◌-◌, Bool, true, false, cond, List, [], ◌∷◌, map, Option, Some, None}
use Rattle.std.specs.List.{slice_get}
use Rattle.protocol.specs.Words.{Version, Exec, Key, Ending, Done, Vote, Choice, Read, Write, Content, Body, no_version}
use Rattle.protocol.specs.declared.Held.{Held}
use Rattle.protocol.specs.declared.Fate.{Fate}
use Rattle.protocol.specs.declared.Fate.TheVariants.{Unbegun}

-- what a program does on a list of answers: the keys of its answered reads, the key that it asks next, its ending,
-- its writes and its printed numbers
pub record Walk : Type 0 where
  pub keys : List Key
  pub asks : Option Key
  pub ending : Option Ending
  pub writes : List Write
  pub out : List ℤ

-- a transaction: what its program does on answers, and when it starts
pub record Txn : Type 0 where
  pub walk : List ℤ → Walk
  pub at : ℕ

-- what a client is given
pub record Rules : Type 0 where
  pub client : ℕ
  pub replicas : ℕ
  pub tries : ℕ
  pub execs : ℕ
  pub gap : ℕ
  pub txns : List Txn

-- an answer to a read: the label in use, and while prepared perhaps a next one
pub record Answer : Type 0 where
  pub label : Held
  pub next : Option Held

-- the first vote of a replica
pub record CountedVote : Type 0 where
  pub replica : ℕ
  pub vote : Vote

-- between attempts; running, with a job pending or not, once a segment of this execution was given back or not;
-- prepared, with the votes, the client's proposal and who accepted it
pub data Phase : Type 0 where
  Between : Phase
  Running : (pending given : Bool) → Phase
  Prepared : (content : Content) (votes : List CountedVote) (proposal : Option Choice) (accepts : List ℕ) → Phase

-- what the client decided, or learnt as decided, of one of its executions
pub record Decision : Type 0 where
  pub exec : Exec
  pub choice : Choice

-- an attempt that was begun: a try of a transaction, at a version
pub record Attempt : Type 0 where
  pub ver : Version
  pub txn : ℕ
  pub try : ℕ

-- what a client remembers
pub record ClientState : Type 0 where
  pub begun : ℕ  -- how many transactions were begun
  pub try : ℕ
  pub exec : Exec  -- the last one begun
  pub answers : List Answer
  pub phase : Phase
  pub serial : ℕ
  pub fate : Fate
  pub decisions : List Decision
  pub attempts : List Attempt  -- the newest first

-- a client that has begun nothing
abbrev pub fresh_client : ClientState
fresh_client = record {
  begun = 0;
  try = 0;
  exec = record { ver = no_version; eid = 0 };
  answers = [];
  phase = Between;
  serial = 0;
  fate = Unbegun;
  decisions = [];
  attempts = [];
}

-- the next state, and what goes to all replicas, in order
pub record Turn : Type 0 where
  pub state : ClientState
  pub sent : List Body

-- nothing is sent
abbrev pub idle : ClientState → Turn
idle c = record { state = c; sent = [] }

-- the turn where the test holds, else nothing happens
abbrev pub turn_when : Bool → ClientState → Turn → Turn
turn_when true c t = t
turn_when false c t = idle c

-- the values of the answers
abbrev pub values : List Answer → List ℤ
values answers = map (λ a. a.label.value) answers

-- what no program does
abbrev pub no_walk : Walk
no_walk = record { keys = []; asks = None; ending = None; writes = []; out = [] }

-- what the program of a transaction does
abbrev pub walk_at : Option Txn → List ℤ → Walk
walk_at None vs = no_walk
walk_at (Some t) vs = t.walk vs

-- what the program of the attempt does on the answers so far
abbrev pub walk : Rules → ClientState → Walk
walk rules c = walk_at (slice_get rules.txns (c.begun - 1)) (values c.answers)

-- the ending is Done
abbrev pub is_done : Ending → Bool
is_done Done = true
is_done _ = false

-- the ending, if there is one, is Done
abbrev pub may_put : Option Ending → Bool
may_put None = true
may_put (Some e) = is_done e

-- the answered reads, with their labels
abbrev pub reads_of : List Key → List Answer → List Read
reads_of (k ∷ ks) (a ∷ answers) = record { key = k; wid = a.label.wid; value = a.label.value } ∷ reads_of ks answers
reads_of [] _ = []
reads_of (k ∷ ks) [] = []

-- what the execution did, which is prepared: an ending other than Done keeps no write
unfoldable pub content : Rules → ClientState → Ending → Content
content rules c e = record {
  reads = reads_of (walk rules c).keys c.answers;
  writes = cond (is_done e) (walk rules c).writes [];
  out = (walk rules c).out;
  ending = e;
}

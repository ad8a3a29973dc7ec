-- The world: what a script says to the protocol, and one record or list per node with the mail.
use Rattle.std.specs.Prelude.{ℕ, ◌-◌, Bool, not, ◌&&◌, nat_lt, nat_le, List, [], length, Option, Some, None}
use Rattle.std.specs.List.{list_any, slice_get}
use Rattle.protocol.specs.Words.{NodeId, Client, Replica, Warden, Envelope, same_node}
use Rattle.protocol.specs.Replica.Taken.{Handled}
use Rattle.protocol.specs.declared.First2.{First2}
use Rattle.protocol.specs.Client.State.{Txn, Rules, ClientState, fresh_client}
use Rattle.protocol.specs.Warden.State.{WardenRules, WardenState, fresh_warden}

-- what a script says, as far as the protocol goes
pub record Plan : Type 0 where
  pub replicas : ℕ
  pub wardens : ℕ
  pub clients : List (List Txn)
  pub firsts : List First2
  pub tries : ℕ
  pub execs : ℕ
  pub gap : ℕ

-- how many envelopes the mail has room for: from then on nothing moves the world
abbrev pub mail_limit : ℕ
mail_limit = 200000

-- a record or list per node, the mail in order of sending, which of it was delivered, in order of first delivery,
-- which nodes are stopped, and how many events moved the world
pub record World : Type 0 where
  pub client : ℕ → ClientState
  pub replica : ℕ → Handled
  pub warden : ℕ → WardenState
  pub mail : List Envelope
  pub delivered : List ℕ
  pub stopped : List NodeId
  pub moved : ℕ

-- nothing was sent
abbrev pub first_world : World
first_world = record {
  client = λ _. fresh_client;
  replica = λ _. [];
  warden = λ _. fresh_warden;
  mail = [];
  delivered = [];
  stopped = [];
  moved = 0;
}

-- k is one of the numbers 1 to n
abbrev pub in_range : ℕ → ℕ → Bool
in_range k n = nat_lt 0 k && nat_le k n

-- the script has the node
abbrev pub exists : Plan → NodeId → Bool
exists p (Client c) = in_range c (length p.clients)
exists p (Replica r) = in_range r p.replicas
exists p (Warden w) = in_range w p.wardens

-- the node is there and was not stopped
abbrev pub is_live : Plan → World → NodeId → Bool
is_live p w node = exists p node && not (list_any (same_node node) w.stopped)

-- the transactions, if there are any
abbrev pub txns_of : Option (List Txn) → List Txn
txns_of None = []
txns_of (Some ts) = ts

-- what client c is given
abbrev pub rules : Plan → ℕ → Rules
rules p c = record { client = c; replicas = p.replicas; tries = p.tries; execs = p.execs; gap = p.gap; txns = txns_of (slice_get p.clients (c - 1)) }

-- what warden k is given
abbrev pub warden_rules : Plan → ℕ → WardenRules
warden_rules p k = record { warden = k; wardens = p.wardens; replicas = p.replicas; clients = length p.clients }

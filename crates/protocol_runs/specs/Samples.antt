-- A few programs, and scripts made of them, for runs that are computed.
use Rattle.std.specs.Prelude.{ℕ, ℤ, pos, ◌+ℤ◌, true, List, [], ◌∷◌, Some, None, flat_map}
use Rattle.protocol.specs.Words.{Version, Exec, Wid, Key, NodeId, Client, Replica, Done, first_wid, Commit, Choice, Write, Content, Accept, Kept, BaseEntry}
use Rattle.protocol.specs.Words.{Body, Envelope}
use Rattle.protocol.specs.Words.{Get, Note, Puts, Prepare, Voted, Event, Picked, Ran, Go, Deliver}
use Rattle.protocol.specs.declared.First2.{First2}
use Rattle.protocol.specs.Client.State.{Walk, Txn}
use Rattle.protocol.specs.World.State.{Plan}
use Rattle.protocol.specs.World.Events.{to_all}

-- the keys x[1] and y[1]
abbrev pub x1 : Key
x1 = record { table = 0; index = pos 1 }

abbrev pub y1 : Key
y1 = record { table = 1; index = pos 1 }

-- the first and the second execution of a version, and a write of the first
abbrev pub exec_of : ℕ → ℕ → Exec
exec_of ts client = record { ver = record { ts = ts; client = client }; eid = 0 }

abbrev pub second_of : ℕ → ℕ → Exec
second_of ts client = record { ver = record { ts = ts; client = client }; eid = 1 }

abbrev pub wid_of : ℕ → ℕ → ℕ → Wid
wid_of ts client seq = record { ver = record { ts = ts; client = client }; eid = 0; seq = seq }

abbrev pub version_at : ℕ → ℕ → Version
version_at ts client = record { ts = ts; client = client }

-- one envelope, and what was sent in order
abbrev pub one : NodeId → NodeId → Body → List Envelope
one from to body = record { from = from; to = to; body = body } ∷ []

abbrev pub sent_so : List (List Envelope) → List Envelope
sent_so envelopes = flat_map (λ es. es) envelopes

-- a write, a base entry, a content named in an answer to a Fence, an accepted pair
abbrev pub written : Key → ℤ → List Write
written key value = record { key = key; value = value } ∷ []

abbrev pub entry_of : Key → Wid → ℤ → BaseEntry
entry_of key wid value = record { key = key; wid = wid; value = value }

abbrev pub kept_as : Exec → Content → Kept
kept_as exec content = record { exec = exec; content = content }

abbrev pub pair : ℕ → Choice → Accept
pair view choice = record { view = view; choice = choice }

-- what inc, look and put do where they read this value from the write of this name, or from the first value
abbrev pub increased_on : Wid → ℤ → Content
increased_on wid value = record {
  reads = record { key = x1; wid = wid; value = value } ∷ [];
  writes = written x1 (value +ℤ pos 1);
  out = value ∷ [];
  ending = Done;
}

abbrev pub increased : ℤ → Content
increased value = increased_on first_wid value

abbrev pub looked : ℤ → Content
looked value = record { reads = record { key = x1; wid = first_wid; value = value } ∷ []; writes = []; out = value ∷ []; ending = Done }

abbrev pub put_content : Content
put_content = record { reads = []; writes = written x1 (pos 1); out = []; ending = Done }

-- what is asked next, before the end
abbrev pub asking : List Key → Key → Walk
asking keys k = record { keys = keys; asks = Some k; ending = None; writes = []; out = [] }

-- all that was done, at the end
abbrev pub done : List Key → List Write → List ℤ → Walk
done keys writes out = record { keys = keys; asks = None; ending = Some Done; writes = writes; out = out }

-- read x[1], write x[1] one more, print what was read
abbrev pub inc : List ℤ → Walk
inc [] = asking [] x1
inc (a ∷ more) = done (x1 ∷ []) (record { key = x1; value = a +ℤ pos 1 } ∷ []) (a ∷ [])

-- read x[1] and print it
abbrev pub look : List ℤ → Walk
look [] = asking [] x1
look (a ∷ more) = done (x1 ∷ []) [] (a ∷ [])

-- write 1 to x[1]
abbrev pub put : List ℤ → Walk
put answers = done [] (record { key = x1; value = pos 1 } ∷ []) []

-- write 7 to x[1], then read y[1] and print it
abbrev pub half : List ℤ → Walk
half [] = record { keys = []; asks = Some y1; ending = None; writes = record { key = x1; value = pos 7 } ∷ []; out = [] }
half (b ∷ more) = done (y1 ∷ []) (record { key = x1; value = pos 7 } ∷ []) (b ∷ [])

-- read x[1] and y[1], write their sum to x[1], print the first
abbrev pub two : List ℤ → Walk
two [] = asking [] x1
two (a ∷ []) = asking (x1 ∷ []) y1
two (a ∷ b ∷ more) = done (x1 ∷ y1 ∷ []) (record { key = x1; value = a +ℤ b } ∷ []) (a ∷ [])

-- the only transaction of a client
abbrev pub only : (List ℤ → Walk) → ℕ → List Txn
only program at = record { walk = program; at = at } ∷ []

-- so many replicas and wardens, these clients and first values, and the usual limits
abbrev pub plan : ℕ → ℕ → List (List Txn) → List First2 → ℕ → Plan
plan replicas wardens clients firsts gap = record {
  replicas = replicas;
  wardens = wardens;
  clients = clients;
  firsts = firsts;
  tries = 3;
  execs = 16;
  gap = gap;
}

-- x[1] is 4 at first
abbrev pub four : List First2
four = record { key = x1; value = pos 4 } ∷ []

-- client 1 runs inc over three replicas, and replicas 1 and 2 voted Commit; their votes are under way
abbrev pub two_votes : List Event
two_votes =
    Picked (Client 1) Go ∷ Ran 1 ∷ Picked (Replica 1) (Deliver 0) ∷ Picked (Client 1) (Deliver 3) ∷ Ran 1 ∷
    Picked (Replica 1) (Deliver 7) ∷ Picked (Replica 2) (Deliver 8) ∷ []

-- what was sent by then
abbrev pub two_votes_mail : List (List Envelope)
two_votes_mail =
    to_all 3 (Client 1) (Get (exec_of 10 1) x1) ∷  -- 0 to 2
    one (Replica 1) (Client 1) (Note (version_at 10 1) x1 first_wid (pos 4) true None) ∷  -- 3
    to_all 3 (Client 1) (Puts (exec_of 10 1) (written x1 (pos 5))) ∷  -- 4 to 6
    to_all 3 (Client 1) (Prepare (exec_of 10 1) (increased (pos 4))) ∷  -- 7 to 9
    one (Replica 1) (Client 1) (Voted (exec_of 10 1) Commit) ∷  -- 10
    one (Replica 2) (Client 1) (Voted (exec_of 10 1) Commit) ∷  -- 11
    []

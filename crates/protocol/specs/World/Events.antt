-- What an event does to the world.
use Rattle.std.specs.Prelude.{ℕ, ◌+◌, cond, ◌==◌, nat_le, List, [], ◌∷◌, ◌++◌, map, length, Option, Some, None, option_map, flat_map}
use Rattle.std.specs.List.{list_any, slice_get}
use Rattle.protocol.specs.Words.{NodeId, Client, Replica, Warden, Envelope, Body, same_node, Pick, Deliver, Go, Hurry, Recover, Truncate, Stop, Event, Picked, Ran, node_of}
use Rattle.protocol.specs.Lists.{upto}
use Rattle.protocol.specs.Replica.Taken.{after_taking}
use Rattle.protocol.specs.Replica.Says.{says}
use Rattle.protocol.specs.Client.State.{Turn}
use Rattle.protocol.specs.Client.Step.{Input, client_step}
use Rattle.protocol.specs.Client.Step.Input.{Goes, Runs, Hurries, Comes}
use Rattle.protocol.specs.Warden.State.{WardenTurn, Parcel}
use Rattle.protocol.specs.Warden.Step.{WardenInput, warden_step}
use Rattle.protocol.specs.Warden.Step.WardenInput.{Recovers, Truncates, Hears}
use Rattle.protocol.specs.Warden.State.Parcel.{To_all, To_client}
use Rattle.protocol.specs.World.State.{Plan, World, mail_limit, is_live, rules, warden_rules}

-- f with another value at k
abbrev pub at {ℓ} : {A : Type ℓ} → ℕ → A → (ℕ → A) → ℕ → A
at k a f j = cond (j == k) a (f j)

-- a body to the replicas 1 to n, in order
abbrev pub to_all : ℕ → NodeId → Body → List Envelope
to_all n from b = map (λ r. record { from = from; to = Replica r; body = b }) (upto n)

-- the envelopes of what a warden sends
abbrev pub parcel : ℕ → NodeId → Parcel → List Envelope
parcel n from (To_all b) = to_all n from b
parcel n from (To_client c b) = record { from = from; to = Client c; body = b } ∷ []

-- what an enabled event does: the nodes after it, and what is sent
pub record Move : Type 0 where
  pub world : World
  pub sent : List Envelope

-- a client takes a turn
unfoldable pub client_moves : Plan → World → ℕ → Turn → Move
client_moves p w c t = record {
  world = record w { client = at c t.state w.client };
  sent = flat_map (to_all p.replicas (Client c)) t.sent;
}

-- a warden takes a turn
unfoldable pub warden_moves : Plan → World → ℕ → WardenTurn → Move
warden_moves p w k t = record {
  world = record w { warden = at k t.state w.warden };
  sent = flat_map (parcel p.replicas (Warden k)) t.sent;
}

-- a replica handles an envelope
unfoldable pub replica_moves : Plan → World → ℕ → Envelope → Move
replica_moves p w r m = record {
  world = record w { replica = at r (after_taking (w.replica r) m) w.replica };
  sent = says p.firsts r (w.replica r) m;
}

-- what happens to a client, where it can happen
abbrev pub client_input : Plan → World → ℕ → Input → Option Move
client_input p w c i = option_map (client_moves p w c) (client_step (rules p c) (w.client c) i)

-- what happens to a warden, where it can happen
abbrev pub warden_input : Plan → World → ℕ → WardenInput → Option Move
warden_input p w k i = option_map (warden_moves p w k) (warden_step (warden_rules p k) (w.warden k) i)

-- a node handles an envelope
abbrev pub receives : Plan → World → NodeId → Envelope → Option Move
receives p w (Client c) m = client_input p w c (Comes m.from m.body)
receives p w (Replica r) m = Some (replica_moves p w r m)
receives p w (Warden k) m = warden_input p w k (Hears m.from m.body)

-- each place once, in the order of first delivery
abbrev pub marked : ℕ → List ℕ → List ℕ
marked i is = cond (list_any (λ j. j == i) is) is (is ++ i ∷ [])

-- envelope i was delivered
abbrev pub mark : ℕ → Move → Move
mark i v = record { world = record v.world { delivered = marked i v.world.delivered }; sent = v.sent }

-- an envelope is delivered to its receiver alone, once or again
abbrev pub delivers : Plan → World → NodeId → ℕ → Option Envelope → Option Move
delivers p w node i None = None
delivers p w node i (Some m) = cond (same_node node m.to) (option_map (mark i) (receives p w node m)) None

-- what a pick of a node does, where that node can do it
unfoldable pub pick_moves : Plan → World → NodeId → Pick → Option Move
pick_moves p w node (Deliver i) = delivers p w node i (slice_get w.mail i)
pick_moves p w node Stop = Some (record { world = record w { stopped = w.stopped ++ node ∷ [] }; sent = [] })
pick_moves p w (Client c) Go = client_input p w c Goes
pick_moves p w (Client c) Hurry = client_input p w c Hurries
pick_moves p w (Warden k) (Recover x) = warden_input p w k (Recovers x)
pick_moves p w (Warden k) (Truncate version) = warden_input p w k (Truncates version)
pick_moves p w node _ = None

-- what an event does, where its node can do it
abbrev pub move_of : Plan → World → Event → Option Move
move_of p w (Picked node pick) = pick_moves p w node pick
move_of p w (Ran c) = client_input p w c Runs

-- an event moves a live node alone
unfoldable pub enabled : Plan → World → Event → Option Move
enabled p w e = cond (is_live p w (node_of e)) (move_of p w e) None

-- at its limit the mail is full, and nothing moves the world any more
abbrev pub made : World → Option Move → World
made w None = w
made w (Some v) =
    cond (nat_le mail_limit (length w.mail)) w
    (record v.world { mail = w.mail ++ v.sent; moved = w.moved + 1 })

-- the world after an event: one that is not enabled, or is refused for the mail, changes nothing
unfoldable pub after : Plan → World → Event → World
after p w e = made w (enabled p w e)

-- the world after a list of events, in order
abbrev pub replay_from : Plan → World → List Event → World
replay_from p w [] = w
replay_from p w (e ∷ events) = replay_from p (after p w e) events

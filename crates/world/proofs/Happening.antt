-- What is known of an event that can happen.
use Rattle.std.proofs.Common.{◌≡◌, ℕ, ◌<◌, Bool, true, false, List, [], ◌∷◌, ◌++◌, Option, Some, None, refl, sym, ap, ◌∙◌, subst, arith}
use Rattle.std.specs.Prelude.{zero, suc, cond, ◌==◌, ◌&&◌, not, is_some, slice_get}
use Rattle.std.specs.List.{list_any}
use Rattle.std.proofs.lemmas.Bool.Decides.{nat_tests}
use Rattle.protocol.specs.Words.{NodeId, Client, Replica, Warden, Envelope, Pick, Idle, Deliver, Go, Hurry, Recover, Truncate, Stop, Event, Picked, Ran, node_of, same_node}
use Rattle.protocol.specs.Client.State.{ClientState}
use Rattle.protocol.specs.Client.Step.Input.{Goes}
use Rattle.protocol.specs.World.State.{Plan, World, exists, is_live}
use Rattle.protocol.specs.World.Events.{Move, client_input, enabled, move_of, pick_moves}
use Rattle.coordinator.specs.Coordinator.{last_attempt}
use Rattle.coordinator.specs.declared.memory.Attempt.{Attempt}
use Rattle.world_rows.specs.Machine.{can_pick}
use Rattle.world.specs.Nodes.{has_node}
use Rattle.world_rows.proofs.Enabling.{live_enabled, move_enabled, some_of}
use Rattle.world.specs.World.{IsByItself, CanHappen}
use Rattle.world.specs.declared.parts.Parts.{Parts}
use Rattle.world.proofs.NodeSlots.{node_is}

left_is : (t u : Bool) → (t && u) ≡ true → t ≡ true
left_is true u e = refl
left_is false u e = e

module _ (s : Parts) (e : Event) (h : CanHappen s e) where
  -- its node is there
  pub there : exists h.loads.plan (node_of e) ≡ true
  there = left_is _ _ (live_enabled h.loads.plan h.world e h.can)

  pub has : has_node s.nodes (node_of e) ≡ true
  has = node_is h.loads h.world s h.stands (node_of e) ∙ there

  -- and does this
  pub move : Move
  move = (some_of (enabled h.loads.plan h.world e) h.can).0

  pub moves : enabled h.loads.plan h.world e ≡ Some move
  unfolding move
  moves = (some_of (enabled h.loads.plan h.world e) h.can).1

  pub doing : move_of h.loads.plan h.world e ≡ Some move
  doing = move_enabled h.loads.plan h.world e move moves

-- what a node does by itself, the nodes can do
pub itself_can : (p : Plan) (w : World) (node : NodeId) (pick : Pick) → IsByItself pick → is_some (pick_moves p w node pick) ≡ true → can_pick p w node pick ≡ true
itself_can p w node Hurry is e = e
itself_can p w node (Recover x) is e = e
itself_can p w node (Truncate v) is e = e
itself_can p w node Idle is e = absurd is
itself_can p w node (Deliver i) is e = absurd is
itself_can p w node Go is e = absurd is
itself_can p w node Stop is e = absurd is

-- what Stop does
pub stop_is : (p : Plan) (w : World) (node : NodeId) (v : Move) → pick_moves p w node Stop ≡ Some v →
    record { world = record w { stopped = w.stopped ++ node ∷ [] }; sent = [] } ≡ v
unfolding pick_moves
stop_is p w node v e = cc

-- what Go does
pub go_is : (p : Plan) (w : World) (c : ℕ) → pick_moves p w (Client c) Go ≡ client_input p w c Goes
unfolding pick_moves
go_is p w c = refl

-- what is left is what a node does by itself
pub is_itself : (p : Plan) (w : World) (node : NodeId) (pick : Pick) → is_some (pick_moves p w node pick) ≡ true → ((i : ℕ) → pick ≡ Deliver i → ⊥) → (pick ≡ Stop → ⊥) →
    ((c : ℕ) → node ≡ Client c → pick ≡ Go → ⊥) → IsByItself pick
unfolding pick_moves
is_itself p w node Hurry e a b d = tt
is_itself p w node (Recover x) e a b d = tt
is_itself p w node (Truncate v) e a b d = tt
is_itself p w node (Deliver i) e a b d = absurd (a i refl)
is_itself p w node Stop e a b d = absurd (b refl)
is_itself p w (Client c) Go e a b d = absurd (d c refl refl)
is_itself p w node Go e a b d = absurd (cc)
is_itself p w node Idle e a b d = absurd (cc)

-- only clients go
pub only_clients_go : (p : Plan) (w : World) (node : NodeId) → is_some (pick_moves p w node Go) ≡ true → (c : ℕ) × (node ≡ Client c)
unfolding pick_moves
only_clients_go p w (Client c) e = (c, refl)
only_clients_go p w (Replica r) e = absurd (cc)
only_clients_go p w (Warden k) e = absurd (cc)

-- the last attempt of a client that has begun one
pub last_is : (c : ClientState) → 0 < c.begun → last_attempt c ≡ Some (record { txn = c.begun; attempt = c.try; exec = c.exec })
last_is c some = go (c.begun == 0) refl
  where
    go : (t : Bool) → (c.begun == 0) ≡ t → cond {A = Option Attempt} t None (Some (record { txn = c.begun; attempt = c.try; exec = c.exec })) ≡ Some (record { txn = c.begun; attempt = c.try; exec = c.exec })
    go true e = absurd (let z : c.begun ≡ 0 = grind (arith, nat_tests) in omega (arith, some, z))
    go false e = refl

pub some_same : {A : Type 0} (a b : A) → Some a ≡ Some b → a ≡ b
some_same a b e = cc

pub none_same : {A : Type 0} (a : A) → None ≡ Some a → ⊥
none_same a e = cc

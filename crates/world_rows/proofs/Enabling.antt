-- What it takes for an event to be enabled, and what an enabled one does.
use Rattle.std.proofs.Common.{◌≡◌, ℕ, Bool, true, false, List, Option, Some, None, refl, sym, ap, ◌∙◌, subst}
use Rattle.std.specs.Prelude.{cond, not, ◌&&◌, option_map, is_some}
use Rattle.std.specs.List.{slice_get}
use Rattle.protocol.specs.Words.{NodeId, Client, Replica, Warden, Envelope, Pick, Idle, Deliver, Go, Hurry, Recover, Truncate, Stop, Event, Picked, Ran, node_of, same_node}
use Rattle.protocol.specs.Client.State.{Turn}
use Rattle.protocol.specs.Client.Step.{Input, client_step}
use Rattle.protocol.specs.Client.Step.Input.{Comes, Runs}
use Rattle.protocol.specs.Warden.State.{WardenTurn}
use Rattle.protocol.specs.Warden.Step.{WardenInput, warden_step}
use Rattle.protocol.specs.Warden.Step.WardenInput.{Hears}
use Rattle.protocol.specs.Client.State.{ClientState, Phase, Rules}
use Rattle.protocol.specs.Client.State.Phase.{Between, Running, Prepared}
use Rattle.protocol.specs.Client.Attempts.{has_pending}
use Rattle.protocol.specs.Client.Step.{on_ran}
use Rattle.menus.specs.Shown.{is_to}
use Rattle.world_rows.specs.Machine.{can_pick}
use Rattle.protocol.specs.World.State.{Plan, World, is_live, rules, warden_rules}
use Rattle.protocol.specs.World.Events.{Move, client_moves, warden_moves, client_input, warden_input, receives, delivers, mark, pick_moves, move_of, enabled}

some_when : {A : Type 0} (t : Bool) (o : Option A) → is_some (cond t o None) ≡ (t && is_some o)
some_when true o = refl
some_when false o = refl

-- an event is enabled where its node is live and can do it
pub enabled_when : (p : Plan) (w : World) (e : Event) → is_some (enabled p w e) ≡ (is_live p w (node_of e) && is_some (move_of p w e))
unfolding enabled
enabled_when p w e = some_when (is_live p w (node_of e)) (move_of p w e)

left_is : (t u : Bool) → (t && u) ≡ true → t ≡ true
left_is true u e = refl
left_is false u e = e

-- the node of an enabled event is live
pub live_enabled : (p : Plan) (w : World) (e : Event) → is_some (enabled p w e) ≡ true → is_live p w (node_of e) ≡ true
live_enabled p w e some = left_is (is_live p w (node_of e)) (is_some (move_of p w e)) (sym (enabled_when p w e) ∙ some)

when_some : {A : Type 0} (t : Bool) (o : Option A) (a : A) → cond t o None ≡ Some a → o ≡ Some a
when_some true o a e = e
when_some false o a e = cc

-- what an enabled event does
pub move_enabled : (p : Plan) (w : World) (e : Event) (v : Move) → enabled p w e ≡ Some v → move_of p w e ≡ Some v
unfolding enabled
move_enabled p w e v is = when_some (is_live p w (node_of e)) (move_of p w e) v is

mapped_some : {A B : Type 0} (f : A → B) (o : Option A) → is_some (option_map f o) ≡ is_some o
mapped_some f None = refl
mapped_some f (Some a) = refl

client_takes : (p : Plan) (w : World) (c : ℕ) (m : Envelope) → is_some (client_input p w c (Comes m.from m.body)) ≡ true
unfolding client_step
client_takes p w c m = mapped_some (client_moves p w c) (client_step (rules p c) (w.client c) (Comes m.from m.body))

warden_takes : (p : Plan) (w : World) (k : ℕ) (m : Envelope) → is_some (warden_input p w k (Hears m.from m.body)) ≡ true
unfolding warden_step
warden_takes p w k m = mapped_some (warden_moves p w k) (warden_step (warden_rules p k) (w.warden k) (Hears m.from m.body))

-- a node handles whatever comes
receives_some : (p : Plan) (w : World) (node : NodeId) (m : Envelope) → is_some (receives p w node m) ≡ true
receives_some p w (Client c) m = client_takes p w c m
receives_some p w (Replica r) m = refl
receives_some p w (Warden k) m = warden_takes p w k m

delivers_some : (p : Plan) (w : World) (node : NodeId) (i : ℕ) (o : Option Envelope) → is_some (delivers p w node i o) ≡ is_to node o
delivers_some p w node i None = refl
delivers_some p w node i (Some m) = go (same_node node m.to)
  where
    go : (t : Bool) → is_some (cond t (option_map (mark i) (receives p w node m)) None) ≡ t
    go true = mapped_some (mark i) (receives p w node m) ∙ receives_some p w node m
    go false = refl

-- an envelope can be delivered where it is to the node
pub deliver_when : (p : Plan) (w : World) (node : NodeId) (i : ℕ) → is_some (pick_moves p w node (Deliver i)) ≡ is_to node (slice_get w.mail i)
unfolding pick_moves
deliver_when p w node i = delivers_some p w node i (slice_get w.mail i)

-- an envelope is delivered: it is to the node, which handles it
pub record IsDelivered (p : Plan) (w : World) (node : NodeId) (i : ℕ) (v : Move) : Type 0 where
  pub m : Envelope
  pub there : slice_get w.mail i ≡ Some m
  pub own : same_node node m.to ≡ true
  pub handled : Move
  pub handles : receives p w node m ≡ Some handled
  pub marked : v ≡ mark i handled

delivers_is : (p : Plan) (w : World) (node : NodeId) (i : ℕ) (v : Move) (o : Option Envelope) → slice_get w.mail i ≡ o → delivers p w node i o ≡ Some v →
    IsDelivered p w node i v
delivers_is p w node i v None there e = cc
delivers_is p w node i v (Some m) there e = go (same_node node m.to) refl e
  where
    handled : same_node node m.to ≡ true → (o : Option Move) → receives p w node m ≡ o → option_map (mark i) o ≡ Some v → IsDelivered p w node i v
    handled own None is e = cc
    handled own (Some u) is e = record { m = m; there = there; own = own; handled = u; handles = is; marked = cc }

    go : (t : Bool) → same_node node m.to ≡ t → (cond t (option_map (mark i) (receives p w node m)) None) ≡ Some v → IsDelivered p w node i v
    go true own e = handled own (receives p w node m) refl e
    go false own e = cc

pub is_delivered : (p : Plan) (w : World) (node : NodeId) (i : ℕ) (v : Move) → pick_moves p w node (Deliver i) ≡ Some v → IsDelivered p w node i v
unfolding pick_moves
is_delivered p w node i v e = delivers_is p w node i v (slice_get w.mail i) refl e

-- a node can always be stopped
pub stop_when : (p : Plan) (w : World) (node : NodeId) → is_some (pick_moves p w node Stop) ≡ true
unfolding pick_moves
stop_when p w node = refl

-- what else can be picked, the nodes decide
pub others_when : (p : Plan) (w : World) (node : NodeId) (pick : Pick) → ((i : ℕ) → pick ≡ Deliver i → ⊥) → (pick ≡ Stop → ⊥) →
    can_pick p w node pick ≡ is_some (pick_moves p w node pick)
others_when p w node Idle a b = refl
others_when p w node (Deliver i) a b = absurd (a i refl)
others_when p w node Go a b = refl
others_when p w node Hurry a b = refl
others_when p w node (Recover x) a b = refl
others_when p w node (Truncate v) a b = refl
others_when p w node Stop a b = absurd (b refl)

on_ran_some : (r : Rules) (c : ClientState) (f : Phase) → is_some (on_ran r c f) ≡ has_pending f
unfolding on_ran
on_ran_some r c Between = refl
on_ran_some r c (Running true given) = refl
on_ran_some r c (Running false given) = refl
on_ran_some r c (Prepared k votes o accepts) = refl

-- a segment can be given back where a job is pending
pub ran_when : (p : Plan) (w : World) (c : ℕ) → is_some (client_input p w c Runs) ≡ has_pending (w.client c).phase
unfolding client_step
ran_when p w c = mapped_some (client_moves p w c) (client_step (rules p c) (w.client c) Runs) ∙ on_ran_some (rules p c) (w.client c) (w.client c).phase

-- an option that is something
pub some_of : {A : Type 0} (o : Option A) → is_some o ≡ true → (a : A) × (o ≡ Some a)
some_of None e = absurd (cc)
some_of (Some a) e = (a, refl)

pub true_of : (t : Bool) → not t ≡ false → t ≡ true
true_of true e = refl
true_of false e = absurd (cc)

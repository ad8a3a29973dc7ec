-- The turn of a node is the move of the world, and the others stand for what they stood for.
use Rattle.std.proofs.Common.{◌≡◌, ℕ, ◌<◌, ◌≤◌, Bool, true, false, List, [], ◌++◌, Option, Some, None, refl, ap, sym, subst, ◌∙◌}
use Rattle.std.specs.Prelude.{nat_lt, option_map, flat_map}
use Rattle.std.specs.Bool.{then_some}
use Rattle.std.proofs.lemmas.List.{append-nil}
use Rattle.protocol.specs.Words.{NodeId, Client, Replica, Warden, Envelope}
use Rattle.protocol.specs.Replica.Taken.{after_taking}
use Rattle.protocol.specs.Replica.Says.{says}
use Rattle.protocol.specs.Client.State as protocol
use Rattle.protocol.specs.Client.State.{ClientState, Turn}
use Rattle.protocol.specs.Client.Attempts.{go}
use Rattle.protocol.specs.Client.Step.{Input, client_step}
use Rattle.protocol.specs.Client.Step.Input.{Goes}
use Rattle.protocol.specs.Warden.State.{WardenTurn}
use Rattle.protocol.specs.Warden.Step.{WardenInput, warden_step}
use Rattle.protocol.specs.World.State.{World, exists, in_range, rules, warden_rules}
use Rattle.protocol.specs.World.Events.{Move, at, to_all, client_moves, warden_moves, replica_moves, client_input, warden_input}
use Rattle.protocol.proofs.TestLemmas.{and_left, and_right, le_is, lt_is}
use Rattle.coordinator.proofs.AttemptLemmas.{goes}
use Rattle.world.specs.Clients.{Loads, AreClients, TakesTurn}
use Rattle.world.specs.Replicas.{AreReplicas}
use Rattle.world.specs.Wardens.{AreTurned}
use Rattle.world.specs.Nodes.{AreNodes, Moves, has_node}
use Rattle.world.specs.declared.clients.Clients.{Clients}
use Rattle.world.specs.declared.replicas.Replicas.{Replicas}
use Rattle.world.specs.declared.wardens.Wardens.{Wardens}
use Rattle.world.specs.declared.nodes.Nodes.{Nodes}

made_by : {A B : Type 0} (f : A → B) (o : Option A) (v : B) → option_map f o ≡ Some v → (a : A) × (o ≡ Some a) × (f a ≡ v)
made_by f None v e = absurd (cc)
made_by f (Some a) v e = (a, refl, cc)

client_moved : (l : Loads) (w : World) (s : Nodes) (c : ℕ) (t : Turn) (cs : Clients) (before after : List Envelope) → AreNodes l w s →
    TakesTurn l c t w.client cs before after → Moves l (client_moves l.plan w c t) (record s { clients = cs }) before after
unfolding client_moves
client_moved l w s c t cs before after are turn = record {
  stands = record { clients = turn.stands; replicas = are.replicas; wardens = are.wardens };
  sent = turn.sent;
}

-- a client that takes its turn moves the world
pub client_does : (l : Loads) (w : World) (s : Nodes) (c : ℕ) (i : Input) (v : Move) (cs : Clients) (before after : List Envelope) → AreNodes l w s →
    client_input l.plan w c i ≡ Some v →
    ((t : Turn) → client_step (rules l.plan c) (w.client c) i ≡ Some t → TakesTurn l c t w.client cs before after) →
    Moves l v (record s { clients = cs }) before after
client_does l w s c i v cs before after are e f =
    let m = made_by (client_moves l.plan w c) (client_step (rules l.plan c) (w.client c) i) v e in
    subst (λ u. Moves l u (record s { clients = cs }) before after) m.2 (client_moved l w s c m.0 cs before after are (f m.0 m.1))

silent : (r : protocol.Rules) (c : ClientState) (t : Turn) → client_step r c Goes ≡ Some t → t.sent ≡ []
unfolding go
silent r c t e = ap (λ (u : Turn). u.sent) (goes r c t e).1

-- a client that begins an attempt sends nothing
pub goes_does : (l : Loads) (c : ℕ) (states : ℕ → ClientState) (t : Turn) (cs : Clients) (before after : List Envelope) →
    client_step (rules l.plan c) (states c) Goes ≡ Some t → AreClients l (at c t.state states) cs → after ≡ before → TakesTurn l c t states cs before after
goes_does l c states t cs before after e are same = record {
  stands = are;
  sent = same ∙ sym (append-nil before) ∙ ap (λ bs. before ++ flat_map (to_all l.plan.replicas (Client c)) bs) (sym (silent (rules l.plan c) (states c) t e));
}

warden_moved : (l : Loads) (w : World) (s : Nodes) (k : ℕ) (t : WardenTurn) (ws : Wardens) (before after : List Envelope) → AreNodes l w s →
    AreTurned l.plan w.warden k t ws before after → Moves l (warden_moves l.plan w k t) (record s { wardens = ws }) before after
unfolding warden_moves
warden_moved l w s k t ws before after are turn = record {
  stands = record { clients = are.clients; replicas = are.replicas; wardens = turn.stands };
  sent = turn.sent;
}

-- a warden that takes its turn moves the world
pub warden_does : (l : Loads) (w : World) (s : Nodes) (k : ℕ) (i : WardenInput) (v : Move) (ws : Wardens) (before after : List Envelope) → AreNodes l w s →
    warden_input l.plan w k i ≡ Some v →
    ((t : WardenTurn) → warden_step (warden_rules l.plan k) (w.warden k) i ≡ Some t → AreTurned l.plan w.warden k t ws before after) →
    Moves l v (record s { wardens = ws }) before after
warden_does l w s k i v ws before after are e f =
    let m = made_by (warden_moves l.plan w k) (warden_step (warden_rules l.plan k) (w.warden k) i) v e in
    subst (λ u. Moves l u (record s { wardens = ws }) before after) m.2 (warden_moved l w s k m.0 ws before after are (f m.0 m.1))

-- where the definitions let a test decide, the turn is that one
pub turn_is : {T : Type 0} (b : Bool) (a t : T) → then_some b a ≡ Some t → a ≡ t
turn_is true a t e = cc
turn_is false a t e = absurd (cc)

pub some_same : {T : Type 0} (a t : T) → Some a ≡ Some t → a ≡ t
some_same a t e = cc

-- a replica that handles an envelope moves the world
pub replica_does : (l : Loads) (w : World) (s : Nodes) (r : ℕ) (m : Envelope) (v : Move) (rs : Replicas) (before after : List Envelope) → AreNodes l w s →
    Some (replica_moves l.plan w r m) ≡ Some v → AreReplicas l.plan (at r (after_taking (w.replica r) m) w.replica) rs →
    after ≡ before ++ says l.plan.firsts r (w.replica r) m → Moves l v (record s { replicas = rs }) before after
unfolding replica_moves
replica_does l w s r m v rs before after are e turn sent =
    let f : replica_moves l.plan w r m ≡ v = cc in
    subst (λ u. Moves l u (record s { replicas = rs }) before after) f
    (record { stands = record { clients = are.clients; replicas = turn; wardens = are.wardens }; sent = sent })

-- What callers see of a node, what its output says, and what the outputs of a set of nodes say.
use Rattle.std.specs.Prelude.{◌≡◌, ◌+◌, ◌⊎◌, ℕ, true, List, [], ◌∷◌, Option, Some, None}
use Rattle.hub.specs.declared.turn_out.Counted.{Counted}
use Rattle.node_future.specs.declared.answers.LastTurn.{LastTurn}
use Rattle.node_future.specs.declared.answers.LastGive.{LastGive}
use Rattle.node_future.specs.declared.output.NodeEnd.{NodeEnd}
use Rattle.node_future.specs.declared.output.NodeOut.{NodeOut}
use Rattle.node_future.specs.States.{TurnsState, IsOneEvent, IsLater}

-- a node: what it takes its turns at, and what that tells; its slot; the counts when it was made; and its output, once it has one
pub record NodeView (T : Type 0) : Type 0 where
  pub turns : T
  pub state : TurnsState
  pub slot : ℕ
  pub first : Counted
  pub out : Option NodeOut

-- the last answers call for this end
abbrev pub IsCause : NodeEnd → TurnsState → Type 0
IsCause NodeEnd.Quiet last = last.last_turn ≡ LastTurn.Quiet
IsCause NodeEnd.Spent last = last.last_turn ≡ LastTurn.Spent
IsCause NodeEnd.Stopped last = last.last_turn ≡ LastTurn.Stopped
IsCause NodeEnd.Full last = (last.last_turn ≡ LastTurn.Full) ⊎ ((last.last_turn ≡ LastTurn.Job) × (last.last_give ≡ LastGive.Full))
IsCause NodeEnd.NoMemory last =
    (last.last_turn ≡ LastTurn.Refused)
    ⊎ ((last.last_turn ≡ LastTurn.Job) × ((last.refused ≡ true) ⊎ (last.last_give ≡ LastGive.Refused)) × (last.spoiled ≡ true))

-- the last answers call for no end
abbrev pub GoesOn : TurnsState → Type 0
GoesOn last =
    (last.last_turn ≡ LastTurn.Moved) ⊎ ((last.last_turn ≡ LastTurn.Idle)
    ⊎ ((last.last_turn ≡ LastTurn.Job) × ((last.last_give ≡ LastGive.Used) ⊎ (last.last_give ≡ LastGive.Stale))))

-- the output of a node that was made at the first counts: what these grew by, and why its turns ended
pub record IsTold (first : Counted) (last : TurnsState) (out : NodeOut) : Type 0 where
  pub turns : out.turns + first.turns ≡ last.turns
  pub rans : out.rans + first.rans ≡ last.rans
  pub cause : IsCause out.end last

-- an output that the node may give: it tells of some later state; once it has an output, it is that one
pub record MayGive {T : Type 0} (n : NodeView T) (out : NodeOut) : Type 0 where
  pub last : TurnsState
  pub later : IsLater n.state last
  pub told : IsTold n.first last out
  pub same : (o : NodeOut) → n.out ≡ Some o → out ≡ o

-- the same node later on
pub record IsAfter {T : Type 0} (old new : NodeView T) : Type 0 where
  pub slot : new.slot ≡ old.slot
  pub first : new.first ≡ old.first
  pub later : IsLater old.state new.state
  pub same : (o : NodeOut) → old.out ≡ Some o → new ≡ old

-- a poll: it makes one event at most, unless the node has its output
pub record IsPolled {T : Type 0} (old new : NodeView T) : Type 0 where
  pub after : IsAfter old new
  pub event : old.out ≡ None → IsOneEvent old.state new.state

-- each of the nodes is polled once
abbrev pub ArePolled : {T : Type 0} → List (NodeView T) → List (NodeView T) → Type 0
ArePolled [] [] = Unit {0}
ArePolled (n ∷ ns) (m ∷ ms) = IsPolled n m × ArePolled ns ms
ArePolled _ _ = ⊥

-- one output for each node, in order
abbrev pub AllGiven : {T : Type 0} → List (NodeView T) → List NodeOut → Type 0
AllGiven [] [] = Unit {0}
AllGiven (n ∷ ns) (o ∷ os) = MayGive n o × AllGiven ns os
AllGiven _ _ = ⊥

-- the outputs are those that the nodes have, and tell of what they took their turns at
abbrev pub AllTold : {T : Type 0} → List (NodeView T) → List NodeOut → Type 0
AllTold [] [] = Unit {0}
AllTold (n ∷ ns) (o ∷ os) = (n.out ≡ Some o) × IsTold n.first n.state o × AllTold ns os
AllTold _ _ = ⊥

-- How what is shown to a link changes, and that the nodes of a plan have their slots.
use Rattle.std.specs.Prelude.{◌≡◌, ℕ, true, false, not, List, [], ◌∷◌, ◌++◌, length, Some}
use Rattle.std.specs.List.{slice_get}
use Rattle.protocol.specs.Words.{NodeId, Envelope, same_node}
use Rattle.protocol.specs.World.State.{Plan, exists}
use Rattle.protocol.specs.World.Committed.{nodes}
use Rattle.protocol.specs.World.Events.{marked}
use Rattle.menus.specs.Slots.{Counts, count_of, has_node}
use Rattle.menus.specs.Shown.{has_number}
use Rattle.menus.specs.Inbox.{Arrived, AreBelow, IsInboxOf, without}

-- the laws of the inbox of a node, where this was sent and these places of it were delivered
pub record Follows (n : NodeId) (mail : List Envelope) (delivered : List ℕ) : Type 0 where
  -- nothing was sent
  pub none : mail ≡ [] → delivered ≡ [] → IsInboxOf n mail delivered (record { fresh = []; delivered = [] })
  -- the next envelope has a number above the fresh ones
  pub next : (b : Arrived) → IsInboxOf n mail delivered b → AreBelow (length mail) b.fresh
  -- an envelope to the node is sent
  pub sent : (b : Arrived) (m : Envelope) → IsInboxOf n mail delivered b → AreBelow (length mail) delivered → same_node n m.to ≡ true →
      IsInboxOf n (mail ++ m ∷ []) delivered (record b { fresh = b.fresh ++ length mail ∷ [] })
  -- one to another node is
  pub sent_to_other : (b : Arrived) (m : Envelope) → IsInboxOf n mail delivered b → AreBelow (length mail) delivered → same_node n m.to ≡ false →
      IsInboxOf n (mail ++ m ∷ []) delivered b
  -- an envelope to the node is fresh just where it was not delivered
  pub known : (b : Arrived) (i : ℕ) (m : Envelope) → IsInboxOf n mail delivered b → slice_get mail i ≡ Some m → same_node n m.to ≡ true →
      has_number i b.delivered ≡ not (has_number i b.fresh)
  -- it is delivered
  pub taken : (b : Arrived) (i : ℕ) (m : Envelope) → IsInboxOf n mail delivered b → slice_get mail i ≡ Some m → same_node n m.to ≡ true →
      IsInboxOf n mail (marked i delivered) (record { fresh = without i b.fresh; delivered = marked i b.delivered })
  -- one to another node is
  pub taken_by_other : (b : Arrived) (i : ℕ) (m : Envelope) → IsInboxOf n mail delivered b → slice_get mail i ≡ Some m → same_node n m.to ≡ false →
      IsInboxOf n mail (marked i delivered) b

abbrev pub InboxesFollow : Type 0
InboxesFollow = (n : NodeId) (mail : List Envelope) (delivered : List ℕ) → Follows n mail delivered

-- how many nodes a plan has
abbrev pub counts_in : Plan → Counts
counts_in p = record { clients = length p.clients; replicas = p.replicas; wardens = p.wardens }

-- the nodes of a plan are as many as it counts, each in one slot
pub record HasSlots (p : Plan) : Type 0 where
  pub count : length (nodes p) ≡ count_of (counts_in p)
  pub one_slot : (i j : ℕ) (n : NodeId) → slice_get (nodes p) i ≡ Some n → slice_get (nodes p) j ≡ Some n → i ≡ j
  pub there : (n : NodeId) → has_node (counts_in p) n ≡ exists p n
  pub stands : (i : ℕ) (n : NodeId) → slice_get (nodes p) i ≡ Some n → exists p n ≡ true
  pub somewhere : (n : NodeId) → exists p n ≡ true → (i : ℕ) × (slice_get (nodes p) i ≡ Some n)

abbrev pub NodesHaveSlots : Type 0
NodesHaveSlots = (p : Plan) → HasSlots p

-- Each node of a plan has a slot, and only these.
use Rattle.std.proofs.Common.{◌≡◌, ℕ, ◌<◌, true, false, Bool, Some, refl, sym, ap, ◌∙◌, subst}
use Rattle.std.specs.Prelude.{slice_get}
use Rattle.protocol.specs.Words.{NodeId}
use Rattle.protocol.specs.World.State.{Plan, World, exists}
use Rattle.protocol.specs.World.Committed.{nodes as nodes_of}
use Rattle.world.specs.Clients.{Loads}
use Rattle.world.specs.Nodes as nodes
use Rattle.world.specs.NodeJobs.{has_is}
use Rattle.menus.specs.Slots.{has_node, nodes_of as slots_of}
use Rattle.menus.proofs.NodesHaveSlots.{has_node_is}
use Rattle.net_core.specs.Machine.{History}
use Rattle.world.specs.declared.origin.Origin.{Origin}
use Rattle.world.specs.declared.world.World.{World as Kept}
use Rattle.world.specs.Origin.{plan}
use Rattle.world.specs.World.{IsWorld, Stands}
use Rattle.world.specs.declared.parts.Parts.{Parts}

module _ (l : Loads) (w : World) (s : Parts) (is : IsWorld l w s) where
  -- a node has a slot where the plan has it
  pub slot_is : (n : NodeId) → has_node s.boxes.slots n ≡ exists l.plan n
  slot_is n = ap (λ v. has_node v n) is.slots ∙ has_node_is l.plan n

  pub node_is : (n : NodeId) → nodes.has_node s.nodes n ≡ exists l.plan n
  node_is n = has_is l w s.nodes n is.nodes

  -- the node of a slot is that of the plan
  pub at_slot : (i : ℕ) (n : NodeId) → slice_get (slots_of s.boxes.slots) i ≡ Some n → slice_get (nodes_of l.plan) i ≡ Some n
  at_slot i n e = ap (λ v. slice_get (slots_of v) i) (sym is.slots) ∙ e

  -- a node that is there has a slot
  pub has_slot : (n : NodeId) → nodes.has_node s.nodes n ≡ true → has_node s.boxes.slots n ≡ true
  has_slot n e = slot_is n ∙ sym (node_is n) ∙ e

some_same : {A : Type 0} (a b : A) → Some a ≡ Some b → a ≡ b
some_same a b e = cc

-- of a World that stands for something, the node of a slot is that of the plan
pub of_slot : (k : Kept) (o : Origin) (h : History) (s : Stands k o h) (i : ℕ) (n m : NodeId) → slice_get (nodes_of (plan o)) i ≡ Some n →
    slice_get (slots_of k.slots) i ≡ Some m → m ≡ n
of_slot k o h s i n m at found = some_same m n (sym found ∙ ap (λ v. slice_get (slots_of v) i) (sym s.slots ∙ s.after.world.slots) ∙ at)

-- The nodes of a plan have their slots.
use Rattle.std.proofs.Common.{◌≡◌, sym, refl, ◌∙◌}
use Rattle.protocol.specs.Words.{NodeId, Client, Replica, Warden}
use Rattle.protocol.specs.World.State.{Plan, exists}
use Rattle.menus.specs.Slots.{has_node}
use Rattle.menus.specs.Laws.{HasSlots, counts_in}
use Rattle.menus.proofs.SlotsLemmas.{nodes_length, one_slot, is_there, stands_somewhere}

pub has_node_is : (p : Plan) (n : NodeId) → has_node (counts_in p) n ≡ exists p n
has_node_is p (Client c) = refl
has_node_is p (Replica r) = refl
has_node_is p (Warden w) = refl

pub have_slots : (p : Plan) → HasSlots p
have_slots p = record {
  count = nodes_length (counts_in p);
  one_slot = λ i j n e f. one_slot (counts_in p) i j n e f;
  there = has_node_is p;
  stands = λ i n e. sym (has_node_is p n) ∙ is_there (counts_in p) i n e;
  somewhere = λ n e. stands_somewhere (counts_in p) n (has_node_is p n ∙ e);
}

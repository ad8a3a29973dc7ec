-- The nodes of a plan have their slots.
use Rattle.menus.proofs.NodesHaveSlots.{have_slots}
use Rattle.menus.proofs.nodes_have_slots.Goals as goal

pub returns : goal.returns
returns c = have_slots

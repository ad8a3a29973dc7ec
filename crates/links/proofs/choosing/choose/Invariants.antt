use Rattle.std.proofs.Common.{map}
use Rattle.links.proofs.ChoosingLemmas.{IsChoosing}
use Rattle.links.proofs.choosing.choose.Given as goal

abbrev pub invariant-loop-slot : goal.invariant-loop-slot
invariant-loop-slot g l = IsChoosing l.kind (map g.L.Link.state_of l.fn.links.items) l.slot (map g.L.Link.state_of l.rest.items) (map g.L.Link.state_of l.chosen.items)

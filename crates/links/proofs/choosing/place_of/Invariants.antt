use Rattle.links.specs.Choosing.{NoneBefore}
use Rattle.links.proofs.choosing.place_of.Given as goal

abbrev pub invariant-loop-i : goal.invariant-loop-i
invariant-loop-i g l = NoneBefore g.L.Link.state_of l.kind l.slot l.links l.i

use Rattle.std.proofs.Common.{refl}
use Rattle.hub.proofs.hub.Hub.recall.Goals as goal

pub returns : goal.returns
returns g c = rw (← c.self.view_is, c.forget.ensures, c.self.invariant.0.handed_are) refl

use Rattle.hub.proofs.Results.{some_case}
use Rattle.hub.proofs.hub.Hub.ended.Goals as goal

pub returns-clause-end : goal.returns-clause-end
returns-clause-end g c = rw (← c.self.view_is) (some_case c.self.inside.ended _ (λ e same s is. (c.self.invariant.2 s is).ends e same))

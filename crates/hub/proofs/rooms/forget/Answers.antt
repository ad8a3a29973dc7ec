use Rattle.std.proofs.Common.{replicate, None, ◌∙◌, ap, rules}
use Rattle.hub.proofs.Lists.{is_replicate}
use Rattle.hub.proofs.rooms.forget.Goals as goal

pub returns : goal.returns
returns g c =
    is_replicate None c.loop-at.handed.items (λ k lt. c.loop-at.invariant.1 k (let same = c.loop-at.invariant.0 in search rules))
    ∙ ap (λ n. replicate n None) c.loop-at.invariant.0

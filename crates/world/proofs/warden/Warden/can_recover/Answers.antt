use Rattle.std.proofs.Common.{◌∙◌}
use Rattle.world.proofs.WardenTurns.{same_can}
use Rattle.world.proofs.warden.Warden.can_recover.Goals as goal

pub returns : goal.returns
returns c = λ p k s h. c.can_recover.ensures h.stands.recoverer_whole ∙ same_can p k s c.args.self.now c.args.x h

-- Where the source was too long, what was read is from its front.
use Rattle.morty_io.specs.Bytes.{IsRestOf}
use Rattle.morty_io.proofs.Moved.{Gives-append, IfTold-from_gives}
use Rattle.morty_io.proofs.whole.read_whole.Goals as goal

pub returns-then-n-limit-clause-rest : goal.returns-then-n-limit-clause-rest
returns-then-n-limit-clause-rest g c =
    IfTold-from_gives IsRestOf _ _ _ (Gives-append _ _ _ _ _ c.loop-n.invariant.given c.in-Ok.ensures.moved) (λ bytes rest e. (_, e))

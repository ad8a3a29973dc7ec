use Rattle.world.proofs.TurnedWardens.{the_warden}
use Rattle.world.proofs.wardens.Wardens.can_recover.Goals as goal

pub returns : goal.returns
returns c = λ p states are.
    c.can_recover.ensures p c.args.number (states c.args.number) (the_warden p states c.args.self.now c.args.number c.index.result.now c.requires.from_one c.requires.up_to_count c.index.ensures are)

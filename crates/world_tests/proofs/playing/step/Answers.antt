-- An event leads to a world of the same origin.
use Rattle.std.proofs.Common.{◌∷◌}
use Rattle.std.proofs.lemmas.Result.{IfOk-at_ok}
use Rattle.world_tests.proofs.playing.step.Goals as goal

pub returns : goal.returns
returns g c =
    let h = c.requires.history in
    record {
      history = c.args.event ∷ h;
      stands = (IfOk-at_ok _ c.expect.ensures c.step.ensures.taken c.args.origin.now h c.requires.stands).0;
      usable = c.step.ensures.usable;
    }

-- A new world stands for no event.
use Rattle.std.proofs.Common.{[]}
use Rattle.std.proofs.lemmas.Result.{IfOk-at_ok}
use Rattle.world.specs.MachineLaws.{in_use}
use Rattle.world_tests.proofs.stories.begin.Goals as goal

pub returns : goal.returns
returns g c =
    let stands = IfOk-at_ok _ c.expect.ensures c.new.ensures in
    record { history = []; stands = stands; usable = in_use c.expect.result c.args.origin.now [] stands }

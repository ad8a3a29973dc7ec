-- A segment that is given back leads to a world of the same origin.
use Rattle.std.proofs.lemmas.Result.{IfOk-at_ok}
use Rattle.world_tests.proofs.PlayingLemmas.{led_on}
use Rattle.world_tests.proofs.playing.give.Goals as goal

pub returns : goal.returns
returns g c =
    let w = c.requires.world in
    let o = c.args.origin.now in
    let n = c.node-node.result in
    let given = IfOk-at_ok _ c.expect.ensures c.give.ensures.given o w.history n w.stands (c.node-node.ensures o w.history w.stands) in
    let led = led_on _ _ _ w.history n c.expect.result _ given in
    record { history = led.0; stands = led.1; usable = c.give.ensures.usable }

use Rattle.std.proofs.Common.{refl}
use Rattle.std.proofs.lemmas.Result.{on_ok_weaker}
use Rattle.world.proofs.TurnedWardens.{the_warden, turned}
use Rattle.world.proofs.wardens.Wardens.hear.Goals as goal

pub returns : goal.returns
returns c = on_ok_weaker c.hear.result (λ f. λ p states are.
    let n = c.args.number in
    let there = the_warden p states c.args.self.now n c.index_mut.result.now c.requires.from_one c.requires.up_to_count c.index_mut.ensures.value are in
    turned p states c.args.self.now _ n c.hear.new.self _ c.args.out.now c.hear.new.out c.requires.from_one are refl (f p n (states n) there)) c.hear.ensures

use Rattle.std.proofs.Common.{refl}
use Rattle.std.proofs.lemmas.Result.{on_ok_weaker}
use Rattle.world.proofs.TurnedWardens.{the_warden, turned}
use Rattle.world.proofs.wardens.Wardens.truncate.Goals as goal

pub truncate-requires : goal.truncate-requires
truncate-requires c =
    let can = c.requires.can in
    let there = the_warden can.0 can.1 c.args.self.now c.args.number c.index_mut.result.now c.requires.from_one c.requires.up_to_count c.index_mut.ensures.value can.2 in
    (can.0, c.args.number, can.1 c.args.number, there, can.3)

pub returns : goal.returns
returns c = on_ok_weaker c.truncate.result (λ f. λ p states are.
    let n = c.args.number in
    let there = the_warden p states c.args.self.now n c.index_mut.result.now c.requires.from_one c.requires.up_to_count c.index_mut.ensures.value are in
    turned p states c.args.self.now _ n c.truncate.new.self _ c.args.out.now c.truncate.new.out c.requires.from_one are refl (f p n (states n) there)) c.truncate.ensures

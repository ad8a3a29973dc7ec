-- One more client is stopped.
use Rattle.std.proofs.Common.{refl}
use Rattle.menus.proofs.WaitingStops.{client_stops}
use Rattle.menus.proofs.waiting.Waiting.stop.Goals as goal

pub returns : goal.returns
returns c = λ n mail stopped are.
    client_stops n mail stopped c.args.self.now are c.args.client _ c.index_mut.result.now
    c.requires.from_one c.requires.up_to_count c.index_mut.ensures.value refl refl

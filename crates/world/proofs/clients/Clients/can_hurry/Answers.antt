use Rattle.world.specs.Clients.{given, IsClient}
use Rattle.world.proofs.Placed.{node_at}
use Rattle.world.proofs.clients.Clients.can_hurry.Goals as goal

pub returns : goal.returns
returns c = λ l states are.
    let n = c.args.number in
    c.can_hurry.ensures (given l n) (states n)
    (node_at (IsClient l) states c.args.self.now.clients.items n c.index.result.now c.requires.from_one c.requires.up_to_count c.index.ensures are.each)

use Rattle.std.proofs.Common.{◌∙◌}
use Rattle.std.proofs.lemmas.List.{length-set}
use Rattle.world.proofs.Results.{on_ok_given, on_ok_at}
use Rattle.world.specs.Clients.{given, IsClient}
use Rattle.world.proofs.Placed.{node_at, node_placed}
use Rattle.world.proofs.clients.Clients.go.Goals as goal

pub returns : goal.returns
returns c = on_ok_given c.go.result _ (λ a e l states t are s.
    let n = c.args.number in
    let items = c.args.self.now.clients.items in
    let there = node_at (IsClient l) states items n c.index_mut.result.now c.requires.from_one c.requires.up_to_count c.index_mut.ensures.value are.each in
    let after = on_ok_at c.go.result _ a (c.go.ensures.stands (given l n) (states n) t there s) e in
    record {
      count = length-set _ _ _ ∙ are.count;
      each = node_placed (IsClient l) states items n c.go.new.self t.state c.requires.from_one are.each after;
    })

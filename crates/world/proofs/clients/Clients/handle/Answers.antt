use Rattle.std.proofs.Common.{◌∙◌}
use Rattle.std.proofs.lemmas.List.{length-set}
use Rattle.std.proofs.lemmas.Result.{on_ok_weaker}
use Rattle.world.specs.Clients.{given, IsClient}
use Rattle.world.proofs.Placed.{node_at, node_placed}
use Rattle.world.proofs.clients.Clients.handle.Goals as goal

pub returns : goal.returns
returns c = on_ok_weaker c.handle.result (λ f. λ l states t are e.
    let n = c.args.number in
    let items = c.args.self.now.clients.items in
    let there = node_at (IsClient l) states items n c.index_mut.result.now c.requires.from_one c.requires.up_to_count c.index_mut.ensures.value are.each in
    let turn = f (given l n) (states n) t there e in
    record {
      stands = record {
        count = length-set _ _ _ ∙ are.count;
        each = node_placed (IsClient l) states items n c.handle.new.self t.state c.requires.from_one are.each turn.state;
      };
      sent = turn.sent;
    }) c.handle.ensures.turn

use Rattle.std.proofs.Common.{◌∙◌}
use Rattle.std.proofs.lemmas.List.{length-set}
use Rattle.coordinator.proofs.JobLemmas.{pending_awaits}
use Rattle.world.specs.Clients.{given, IsClient}
use Rattle.world.proofs.Placed.{node_at, node_placed}
use Rattle.world.proofs.ClientJobs.{the_job}
use Rattle.world.proofs.clients.Clients.ran.Goals as goal

pub ran-requires : goal.ran-requires
ran-requires c = λ waits.
    the_job c.args.self.now c.args.number c.index_mut.result.now c.requires.from_one c.requires.up_to_count c.index_mut.ensures.value ∙ c.requires.pending

pub returns : goal.returns
returns c = λ l states t are e named.
    let n = c.args.number in
    let items = c.args.self.now.clients.items in
    let s = c.index_mut.result.now in
    let there = node_at (IsClient l) states items n s c.requires.from_one c.requires.up_to_count c.index_mut.ensures.value are.each in
    let pending = the_job c.args.self.now n s c.requires.from_one c.requires.up_to_count c.index_mut.ensures.value ∙ c.requires.pending in
    let turn = c.in_ok-ran.ensures.used (pending_awaits s.memory c.args.done.now.job pending) (given l n) (states n) t there e named in
    record {
      stands = record {
        count = length-set _ _ _ ∙ are.count;
        each = node_placed (IsClient l) states items n c.ran.new.self t.state c.requires.from_one are.each turn.state;
      };
      sent = turn.sent;
    }

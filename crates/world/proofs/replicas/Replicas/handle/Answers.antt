-- The replica of the number says and keeps what the definitions have it say and keep.
use Rattle.std.proofs.Common.{ℕ, ◌∙◌}
use Rattle.std.proofs.lemmas.List.{length-set}
use Rattle.protocol.specs.Replica.Taken.{Handled, after_taking}
use Rattle.protocol.specs.World.State.{Plan}
use Rattle.replica.specs.Replica.{StandsFor}
use Rattle.replica.specs.declared.replica.Replica.{Replica}
use Rattle.world.proofs.Placed.{node_at, node_placed}
use Rattle.world.proofs.Results.{on_ok_given, on_ok_at}
use Rattle.world.proofs.replicas.Replicas.handle.Goals as goal

abbrev Is : Plan → ℕ → Handled → Replica → Type 0
Is p n h r = StandsFor p.firsts n h r

pub returns-clause-says : goal.returns-clause-says
returns-clause-says c = on_ok_given c.handle.result _ (λ a e p handled are.
    let n = c.args.number in
    let r = c.index_mut.result.now in
    let there = node_at (Is p) handled c.args.self.now.replicas.items n r c.requires.from_one c.requires.up_to_count c.index_mut.ensures.value are.each in
    on_ok_at c.handle.result _ a (c.handle.ensures.says p.firsts n (handled n) there) e)

pub returns-clause-stands : goal.returns-clause-stands
returns-clause-stands c = on_ok_given c.handle.result _ (λ a e p handled are.
    let n = c.args.number in
    let r = c.index_mut.result.now in
    let items = c.args.self.now.replicas.items in
    let there = node_at (Is p) handled items n r c.requires.from_one c.requires.up_to_count c.index_mut.ensures.value are.each in
    let after = on_ok_at c.handle.result _ a (c.handle.ensures.stands p.firsts n (handled n) there) e in
    record {
      count = length-set _ _ _ ∙ are.count;
      each = node_placed (Is p) handled items n c.handle.new.self (after_taking (handled n) c.args.env.now) c.requires.from_one are.each after;
    })

use Rattle.std.proofs.Common.{rules}
use Rattle.std.proofs.lemmas.List.Sorted.{IsPartitionPoint-from_clause}
use Rattle.protocol.specs.Words.{Key, key_before}
use Rattle.mv_index.proofs.Sorted.{parted, prefix_is}
use Rattle.mv_index.proofs.KeyOrder.{below_down}
use Rattle.mv_index.proofs.key_list.place.Goals as goal

pub returns-clause-place : goal.returns-clause-place
returns-clause-place c = λ order.
    let point = IsPartitionPoint-from_clause (λ (l : Key). key_before l c.args.key) _ _ c.partition_point.ensures.partitioned (parted key_before
    (λ (l : Key). key_before l c.args.key) (below_down c.args.key) c.args.keys.now order) (λ a r q k. search rules) in
    prefix_is (λ (l : Key). key_before l c.args.key) c.args.keys.now _ c.partition_point.ensures.bound point.0 point.1

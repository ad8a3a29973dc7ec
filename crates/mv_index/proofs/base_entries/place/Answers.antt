use Rattle.std.proofs.Common.{rules}
use Rattle.std.proofs.lemmas.List.Sorted.{IsPartitionPoint-from_clause}
use Rattle.protocol.specs.Words.{BaseEntry, key_before}
use Rattle.mv_index.proofs.KeyOrder.{below_down}
use Rattle.mv_index.proofs.Sorted.{parted, prefix_is}
use Rattle.mv_index.proofs.base_entries.place.Goals as goal

pub returns-clause-place : goal.returns-clause-place
returns-clause-place c = λ rise.
    let p = λ (b : BaseEntry). key_before b.key c.args.key in
    let point = IsPartitionPoint-from_clause p _ _ c.partition_point.ensures.partitioned (parted (λ (a b : BaseEntry). key_before a.key b.key) p
    (λ a b e f. below_down c.args.key a.key b.key e f) c.args.entries.now rise) (λ a r q k. search rules) in
    prefix_is p c.args.entries.now _ c.partition_point.ensures.bound point.0 point.1

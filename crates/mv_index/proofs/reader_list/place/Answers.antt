use Rattle.std.proofs.Common.{rules}
use Rattle.std.proofs.lemmas.List.Sorted.{IsPartitionPoint-from_clause}
use Rattle.mv_index.specs.ReaderList.{stands_before}
use Rattle.mv_index.proofs.Sorted.{parted, prefix_is, stands_down}
use Rattle.mv_index.proofs.reader_list.place.Goals as goal

pub returns-clause-place : goal.returns-clause-place
returns-clause-place c = λ order.
    let point = IsPartitionPoint-from_clause (stands_before c.args.key c.args.ver) _ _ c.partition_point.ensures.partitioned (parted
    (λ r s. stands_before s.key s.ver r) (stands_before c.args.key c.args.ver) (stands_down c.args.key c.args.ver) c.args.readers.now order) (λ a r q k.
    search rules) in
    prefix_is (stands_before c.args.key c.args.ver) c.args.readers.now _ c.partition_point.ensures.bound point.0 point.1

use Rattle.std.proofs.Common.{rules}
use Rattle.std.specs.Prelude.{not}
use Rattle.std.proofs.lemmas.List.Sorted.{IsPartitionPoint-from_clause}
use Rattle.protocol.specs.Words.{key_before}
use Rattle.mv_index.specs.declared.reader_list.Reader.{Reader}
use Rattle.mv_index.specs.ReaderList.{stands_before}
use Rattle.mv_index.proofs.Keyed.{end_down}
use Rattle.mv_index.proofs.Sorted.{parted, prefix_is}
use Rattle.mv_index.proofs.reader_list.end_of.Goals as goal

pub returns-clause-place : goal.returns-clause-place
returns-clause-place c = λ order.
    let p = λ (r : Reader). not (key_before c.args.key r.key) in
    let point = IsPartitionPoint-from_clause p _ _ c.partition_point.ensures.partitioned (parted (λ r s. stands_before s.key s.ver r) p
    (end_down c.args.key) c.args.readers.now order) (λ a r q k. search rules) in
    prefix_is p c.args.readers.now _ c.partition_point.ensures.bound point.0 point.1

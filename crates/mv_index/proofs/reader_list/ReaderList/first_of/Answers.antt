use Rattle.std.proofs.Common.{rules, ◌∙◌, ap, subst, sym}
use Rattle.std.proofs.lemmas.List.Sorted.{IsPartitionPoint-from_clause}
use Rattle.protocol.specs.Words.{key_before}
use Rattle.mv_index.specs.declared.reader_list.Reader.{Reader}
use Rattle.protocol.specs.Lists.{tally}
use Rattle.mv_index.specs.ReaderList.{stands_before, IsInOrder}
use Rattle.mv_index.proofs.Sorted.{parted, prefix_is, prefix_tally, key_down}
use Rattle.mv_index.proofs.reader_list.ReaderList.first_of.Goals as goal

pub returns : goal.returns
returns c = λ order.
    let now = sym c.as_slice.ensures.value in
    let order' = subst IsInOrder now order in
    let point = IsPartitionPoint-from_clause (λ (r : Reader). key_before r.key c.args.key) _ _ c.partition_point.ensures.partitioned (parted
    (λ r s. stands_before s.key s.ver r) (λ r. key_before r.key c.args.key) (key_down c.args.key) c.as_slice.result.now order') (λ a r q k. search rules) in
    prefix_is (λ (r : Reader). key_before r.key c.args.key) c.as_slice.result.now _ c.partition_point.ensures.bound point.0 point.1
    ∙ (prefix_tally (λ r s. stands_before s.key s.ver r) (λ r. key_before r.key c.args.key) (key_down c.args.key) c.as_slice.result.now order'
    ∙ ap (tally (λ (r : Reader). key_before r.key c.args.key)) c.as_slice.ensures.value)

-- The entries of keys before stand first, so a binary search finds where they end.
use Rattle.std.proofs.Common.{rules}
use Rattle.std.proofs.lemmas.List.Sorted.{IsPartitionPoint-from_clause}
use Rattle.protocol.specs.Words.{BaseEntry, key_before}
use Rattle.truncation.proofs.BaseLemmas.{parted}
use Rattle.truncation.proofs.base.place.Goals as goal

pub returns-clause-place : goal.returns-clause-place
returns-clause-place c = λ order.
    IsPartitionPoint-from_clause (λ (e : BaseEntry). key_before e.key c.args.key) _ _ c.partition_point.ensures.partitioned
    (parted c.args.key c.args.entries.now order) (λ a r q k. search rules)

-- What was read and what is still to be read is what the bytes are judged to be.
use Rattle.std.proofs.Common.{◌≡◌, ◌-◌, None}
use Rattle.wire.specs.Field.{items_at}
use Rattle.wire.proofs.Items.{with_front, last_of}
use Rattle.wire.proofs.item.take_items.Given as goal

abbrev pub invariant-loop : goal.invariant-loop
invariant-loop g l =
    with_front l.items (items_at g.T.Item.judged (last_of l.items) (l.count - l.counter) l.rest) ≡ items_at g.T.Item.judged None l.count l.bytes

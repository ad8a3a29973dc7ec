-- The frames of the items so far were added.
use Rattle.std.proofs.Common.{◌≡◌, ◌++◌, take}
use Rattle.std.specs.List.{All, flat_map}
use Rattle.wire.proofs.item.put_items.Given as goal

abbrev pub invariant-loop-item : goal.invariant-loop-item
invariant-loop-item g l =
    (l.out.items ≡ l.fn.out.items ++ flat_map g.T.Item.frame (take l.item-index l.items)) × All g.T.Item.InRange (take l.item-index l.items)

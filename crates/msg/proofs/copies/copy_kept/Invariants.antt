-- The items so far were copied.
use Rattle.std.proofs.Common.{◌≡◌, take}
use Rattle.msg.proofs.copies.copy_kept.Given as goal

abbrev pub invariant-loop-item : goal.invariant-loop-item
invariant-loop-item l = l.copied ≡ take l.item-index l.kept

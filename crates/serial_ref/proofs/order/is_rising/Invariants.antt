-- Each item so far is earlier than the next.
use Rattle.std.proofs.Common.{◌≡◌, ℕ, ◌+◌, ◌<◌, true, get_or}
use Rattle.morty_base.specs.Names.{before}
use Rattle.serial_ref.specs.declared.item.SerialItem.{SerialItem}
use Rattle.serial_ref.proofs.order.is_rising.Given as goal

abbrev pub invariant-loop-i : goal.invariant-loop-i
invariant-loop-i l = (k : ℕ) (d : SerialItem) → k + 1 < l.i → before (get_or l.items k d).ver (get_or l.items (k + 1) d).ver ≡ true

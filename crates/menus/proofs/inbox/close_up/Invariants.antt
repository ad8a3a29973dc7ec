-- What is left without the number at the gap stays.
use Rattle.std.proofs.Common.{◌≡◌, ◌≤◌, ◌<◌, ◌-◌, length}
use Rattle.std.specs.List.{remove}
use Rattle.menus.proofs.inbox.close_up.Given as goal

abbrev pub invariant-loop-gap : goal.invariant-loop-gap
invariant-loop-gap l = record {
  from : l.start ≤ l.gap;
  within : l.gap < length l.numbers.items;
  len : length l.numbers.items ≡ length l.initial.numbers.items;
  left : remove l.numbers.items l.gap ≡ remove l.initial.numbers.items l.at;
}

abbrev pub decreases-loop-gap : goal.decreases-loop-gap
decreases-loop-gap l = l.gap - l.start

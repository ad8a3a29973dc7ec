-- So many clients are there, of which nothing is known.
use Rattle.std.proofs.Common.{◌≡◌, suc, [], length}
use Rattle.menus.specs.Waiting.{IsUndecided}
use Rattle.menus.proofs.EachPlace.{Each}
use Rattle.menus.proofs.waiting.Waiting.new.Given as goal

abbrev pub invariant-loop : goal.invariant-loop
invariant-loop l = record {
  count : length l.undecided.items ≡ l.counter;
  each : Each (λ i u. IsUndecided (suc i) [] [] u) l.undecided.items;
}

-- So many are there, each of them empty.
use Rattle.std.proofs.Common.{◌≡◌, [], length}
use Rattle.protocol.specs.Words.{NodeId}
use Rattle.menus.specs.Mailbox.{IsMailbox}
use Rattle.menus.proofs.EachPlace.{Each}
use Rattle.menus.proofs.mailbox.empty_mailboxes.Given as goal

abbrev pub invariant-loop : goal.invariant-loop
invariant-loop l = record {
  count : length l.boxes.items ≡ l.counter;
  each : Each (λ i b. (n : NodeId) → IsMailbox n [] [] [] b) l.boxes.items;
}

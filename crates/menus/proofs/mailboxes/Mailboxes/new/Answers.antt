-- Nothing was sent.
use Rattle.std.proofs.Common.{refl, subst}
use Rattle.menus.specs.Waiting.{AreWaiting}
use Rattle.menus.proofs.mailboxes.Mailboxes.new.Goals as goal

pub returns-clause-stands : goal.returns-clause-stands
returns-clause-stands c = record {
  nodes = refl;
  sent = c.in_ok-mail.ensures;
  receivers = c.new-3.ensures;
  below = λ j a. absurd a;
  each = λ i b e n at. c.in_ok-boxes.ensures.each i b e n;
  waiting = subst (λ k. AreWaiting k _ _ c.in_ok-waiting.waiting) c.clients.ensures c.in_ok-waiting.ensures;
}

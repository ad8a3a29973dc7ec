-- One more is empty.
use Rattle.std.proofs.Common.{◌≡◌, ◌∷◌, [], ◌+◌, false, length, refl, ap, sym, subst, ◌∙◌, length-append}
use Rattle.protocol.specs.Words.{NodeId}
use Rattle.menus.specs.Inbox.{IsInboxOf}
use Rattle.menus.specs.Mailbox.{IsMailbox}
use Rattle.menus.specs.declared.mailbox.Mailbox.{Mailbox}
use Rattle.menus.proofs.EachPlace.{Each, each_push}
use Rattle.menus.proofs.mailbox.empty_mailboxes.Goals as goal

empty : (n : NodeId) (b : Mailbox) → b.inbox ≡ record { fresh = []; delivered = [] } → b.is_stopped ≡ false → IsMailbox n [] [] [] b
empty n b e f = record {
  inbox = subst (λ a. IsInboxOf n [] [] a) (sym e) (record { fresh = refl; old = refl });
  node_stopped = f;
}

pub loop-preserved : goal.loop-preserved
loop-preserved c =
    let b : Mailbox = record { inbox = c.new.result; is_stopped = false } in
    record {
      count = ap length c.in_ok-push.ensures.items ∙ (length-append c.loop.boxes.items (b ∷ []) ∙ ap (λ n. n + 1) c.loop.invariant.count);
      each = subst (Each (λ i x. (n : NodeId) → IsMailbox n [] [] [] x)) (sym c.in_ok-push.ensures.items)
          (each_push (λ i x. (n : NodeId) → IsMailbox n [] [] [] x) c.loop.boxes.items b c.loop.invariant.each (λ n. empty n b c.new.ensures refl));
    }

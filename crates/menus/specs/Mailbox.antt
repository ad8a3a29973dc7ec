-- The mailbox of a node.
use Rattle.std.specs.Prelude.{◌≡◌, ℕ, List}
use Rattle.std.specs.List.{list_any}
use Rattle.protocol.specs.Words.{NodeId, Envelope, same_node}
use Rattle.menus.specs.Inbox.{IsInboxOf}
use Rattle.menus.specs.declared.mailbox.Mailbox.{Mailbox}

-- the mailbox of node n, where this was sent, these places of it were delivered and these nodes are stopped
pub record IsMailbox (n : NodeId) (mail : List Envelope) (delivered : List ℕ) (stopped : List NodeId) (b : Mailbox) : Type 0 where
  pub inbox : IsInboxOf n mail delivered b.inbox
  pub node_stopped : b.is_stopped ≡ list_any (same_node n) stopped

-- The mailboxes of a world.
use Rattle.std.specs.Prelude.{◌≡◌, ℕ, true, List, map, length, Some}
use Rattle.std.specs.List.{slice_get}
use Rattle.protocol.specs.Words.{NodeId, Envelope}
use Rattle.menus.specs.Shown.{is_to}
use Rattle.menus.specs.Inbox.{AreBelow}
use Rattle.menus.specs.Slots.{nodes_of}
use Rattle.menus.specs.Mailbox.{IsMailbox}
use Rattle.menus.specs.Waiting.{AreWaiting}
use Rattle.menus.specs.declared.mailbox.Mailbox.{Mailbox}
use Rattle.menus.specs.declared.mailboxes.Mailboxes.{Mailboxes}

-- the mailboxes of these nodes, where this was sent, these places of it were delivered and these nodes are stopped
pub record AreMailboxes (ns : List NodeId) (mail : List Envelope) (delivered : List ℕ) (stopped : List NodeId) (s : Mailboxes) : Type 0 where
  pub nodes : ns ≡ nodes_of s.slots
  pub sent : s.mail ≡ mail
  pub receivers : s.receivers ≡ map (λ m. m.to) mail
  pub below : AreBelow (length mail) delivered
  pub each : (i : ℕ) (b : Mailbox) → slice_get s.boxes.items i ≡ Some b → (n : NodeId) → slice_get ns i ≡ Some n → IsMailbox n mail delivered stopped b
  pub waiting : AreWaiting s.slots.clients mail stopped s.waiting

-- they stand for something
pub record AreInUse (s : Mailboxes) : Type 0 where
  pub nodes : List NodeId
  pub mail : List Envelope
  pub delivered : List ℕ
  pub stopped : List NodeId
  pub stand : AreMailboxes nodes mail delivered stopped s

-- they stand for something, where envelope i is to the node of a slot
pub record CanDeliver (slot i : ℕ) (s : Mailboxes) : Type 0 where
  pub nodes : List NodeId
  pub mail : List Envelope
  pub delivered : List ℕ
  pub stopped : List NodeId
  pub stand : AreMailboxes nodes mail delivered stopped s
  pub node : NodeId
  pub there : slice_get nodes slot ≡ Some node
  pub own : is_to node (slice_get mail i) ≡ true

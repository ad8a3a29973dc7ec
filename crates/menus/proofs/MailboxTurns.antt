-- What an envelope that is delivered, or a node that stops, changes in the mailboxes.
use Rattle.std.proofs.Common.{◌≡◌, ◌≢◌, inl, inr, ℕ, ◌+◌, ◌-◌, ◌<◌, ◌≤◌, Bool, true, false, cond, List, [], ◌∷◌, ◌++◌, Option, Some, None, length}
use Rattle.std.proofs.Common.{get_or, set, refl, ap, sym, subst, ◌∙◌, arith}
use Rattle.std.specs.Prelude.{◌||◌, not, nat_lt}
use Rattle.std.specs.List.{list_any, slice_get}
use Rattle.std.proofs.lemmas.Bool.Decides.{nat_tests}
use Rattle.std.proofs.lemmas.Option.{slice_get_within}
use Rattle.protocol.specs.Words.{NodeId, Client, Envelope, same_node}
use Rattle.protocol.specs.World.Events.{marked}
use Rattle.protocol.specs.World.State.{in_range}
use Rattle.protocol.proofs.ListsLemmas.{IsIn-cases}
use Rattle.menus.specs.Shown.{has_number, is_to}
use Rattle.menus.specs.Inbox.{AreBelow, IsInboxOf, without}
use Rattle.menus.specs.Slots.{Counts, nodes_of, count_of}
use Rattle.menus.specs.Mailbox.{IsMailbox}
use Rattle.menus.specs.Mailboxes.{AreMailboxes, CanDeliver}
use Rattle.menus.specs.Waiting.{AreWaiting}
use Rattle.menus.specs.declared.mailbox.Mailbox.{Mailbox}
use Rattle.menus.specs.declared.mailboxes.Mailboxes.{Mailboxes}
use Rattle.menus.proofs.Arriving.{follows}
use Rattle.menus.proofs.EachPlace.{Each, each_at, each_with, some_is}
use Rattle.menus.proofs.SlotsLemmas.{slot_of_node, client_in}
use Rattle.menus.proofs.MailboxesLemmas.{is_node, same_self, not_node, elsewhere}
use Rattle.menus.proofs.WaitingLemmas.{or_false}
use Rattle.menus.proofs.WaitingStops.{stopped_more}

-- the mailbox of a slot
pub box_at : (ns : List NodeId) (mail : List Envelope) (d : List ℕ) (st : List NodeId) (s : Mailboxes) → AreMailboxes ns mail d st s →
    (slot : ℕ) (b : Mailbox) (n : NodeId) →
    slot < count_of s.slots → b ≡ get_or s.boxes.items slot b → slice_get ns slot ≡ Some n → IsMailbox n mail d st b
box_at ns mail d st s are slot b n within there at =
    let count = s.one_each in
    each_at (λ j x. (k : NodeId) → slice_get ns j ≡ Some k → IsMailbox k mail d st x) s.boxes.items slot b (omega (arith, count)) there are.each n at

-- ---- an envelope is delivered

-- it is one of those that were sent, to this node
pub record WasSentTo (n : NodeId) (i : ℕ) (mail : List Envelope) : Type 0 where
  pub envelope : Envelope
  pub there : slice_get mail i ≡ Some envelope
  pub own : same_node n envelope.to ≡ true

was_sent_to : (n : NodeId) (i : ℕ) (mail : List Envelope) → is_to n (slice_get mail i) ≡ true → WasSentTo n i mail
was_sent_to n i mail e = go (slice_get mail i) refl e
  where
    go : (o : Option Envelope) → slice_get mail i ≡ o → is_to n o ≡ true → WasSentTo n i mail
    go None q e = absurd (cc e)
    go (Some m) q e = record { envelope = m; there = q; own = e }

-- the same of whatever they stand for
own_mail : (s : Mailboxes) (slot i : ℕ) (ns : List NodeId) (mail : List Envelope) (d : List ℕ) (st : List NodeId) (n : NodeId) → CanDeliver slot i s →
    AreMailboxes ns mail d st s →
    slice_get ns slot ≡ Some n → WasSentTo n i mail
own_mail s slot i ns mail d st n can are at =
    let nodes : can.nodes ≡ ns = can.stand.nodes ∙ sym are.nodes in
    let same : can.node ≡ n = some_is can.node n (slice_get ns slot) (ap (λ l. slice_get l slot) (sym nodes) ∙ can.there) at in
    let sent : can.mail ≡ mail = sym can.stand.sent ∙ are.sent in
    was_sent_to n i mail (subst (λ k. is_to k (slice_get mail i) ≡ true) same (subst (λ l. is_to can.node (slice_get l i) ≡ true) sent can.own))

-- the inbox can note it
pub can_note : (s : Mailboxes) (slot i : ℕ) (b : Mailbox) → CanDeliver slot i s → slot < length s.boxes.items → b ≡ get_or s.boxes.items slot b →
    has_number i b.inbox.delivered ≡ not (has_number i b.inbox.fresh)
can_note s slot i b can within there =
    let was = was_sent_to can.node i can.mail can.own in
    let is = each_at (λ j x.
    (n : NodeId) → slice_get can.nodes j ≡ Some n →
    IsMailbox n can.mail can.delivered can.stopped x) s.boxes.items slot b within there can.stand.each can.node can.there in
    (follows can.node can.mail can.delivered).known b.inbox i was.envelope is.inbox was.there was.own

module _ (ns : List NodeId) (mail : List Envelope) (d : List ℕ) (st : List NodeId) (s : Mailboxes) (slot i : ℕ) (are : AreMailboxes ns mail d st s)
    (can : CanDeliver slot i s) where
  own : (n : NodeId) → slice_get ns slot ≡ Some n → WasSentTo n i mail
  own n at = own_mail s slot i ns mail d st n can are at

  slot_there : slice_get ns slot ≡ Some can.node
  slot_there = ap (λ l. slice_get l slot) (are.nodes ∙ sym can.stand.nodes) ∙ can.there

  marked_below : AreBelow (length mail) (marked i d)
  marked_below = go (has_number i d)
    where
      low : nat_lt i (length mail) ≡ true
      low = let w = own can.node slot_there in let l = slice_get_within mail i w.envelope w.there in grind (arith, nat_tests)

      go : (t : Bool) → AreBelow (length mail) (cond t d (d ++ i ∷ []))
      go true = are.below
      go false = λ j a. elim (IsIn-cases j d (i ∷ []) a) [
        | inl k ↦ are.below j k
        | inr k ↦ elim k [ inl e ↦ subst (λ x. nat_lt x (length mail) ≡ true) (sym e) low | inr z ↦ absurd z ]
      ]

  pub delivered : (s' : Mailboxes) (b new : Mailbox) → s'.slots ≡ s.slots → s'.mail ≡ s.mail → s'.receivers ≡ s.receivers →
      s'.boxes.items ≡ set s.boxes.items slot new → s'.waiting ≡ s.waiting →
      slot < length s.boxes.items → b ≡ get_or s.boxes.items slot b →
      new.inbox ≡ record { fresh = without i b.inbox.fresh; delivered = marked i b.inbox.delivered } → new.is_stopped ≡ b.is_stopped →
      AreMailboxes ns mail (marked i d) st s'
  delivered s' b new slots sent receivers boxes waiting within there inbox same = record {
    nodes = are.nodes ∙ ap nodes_of (sym slots);
    sent = sent ∙ are.sent;
    receivers = receivers ∙ are.receivers;
    below = marked_below;
    each = subst (λ xs. Each Now xs) (sym boxes) (each_with Was Now s.boxes.items slot new are.each here others);
    waiting = subst (λ k. AreWaiting k mail st s'.waiting) (ap (λ (v : Counts). v.clients) (sym slots))
        (subst (λ x. AreWaiting s.slots.clients mail st x) (sym waiting) are.waiting);
  }
    where
      Was : ℕ → Mailbox → Type 0
      Was j x = (n : NodeId) → slice_get ns j ≡ Some n → IsMailbox n mail d st x

      Now : ℕ → Mailbox → Type 0
      Now j x = (n : NodeId) → slice_get ns j ≡ Some n → IsMailbox n mail (marked i d) st x

      here : Now slot new
      here = λ n q.
          let is = each_at Was s.boxes.items slot b within there are.each n q in
          let w = own n q in
          record {
            inbox = subst (λ x. IsInboxOf n mail (marked i d) x) (sym inbox) ((follows n mail d).taken b.inbox i w.envelope is.inbox w.there w.own);
            node_stopped = same ∙ is.node_stopped;
          }

      others : (j : ℕ) (y : Mailbox) → j ≢ slot → Was j y → Now j y
      others j y other was = λ n q.
          let w = own can.node slot_there in
          let is = was n q in
          let apart : same_node n w.envelope.to ≡ false = subst (λ k. same_node n k ≡ false) (is_node can.node w.envelope.to w.own)
          (elsewhere s.slots ns j slot n can.node are.nodes q slot_there other) in
          record {
            inbox = (follows n mail d).taken_by_other y.inbox i w.envelope is.inbox w.there apart;
            node_stopped = is.node_stopped;
          }

-- ---- a node stops

or_true : (a : Bool) → (a || true) ≡ true
or_true true = refl
or_true false = refl

module _ (ns : List NodeId) (mail : List Envelope) (d : List ℕ) (st : List NodeId) (n : NodeId) (s : Mailboxes) (slot : ℕ)
    (are : AreMailboxes ns mail d st s) (at : slice_get ns slot ≡ Some n) where
  at_slot : slice_get (nodes_of s.slots) slot ≡ Some n
  at_slot = ap (λ l. slice_get l slot) (sym are.nodes) ∙ at

  -- the first slots are those of the clients
  pub is_client : slot < s.slots.clients → n ≡ Client (slot + 1)
  is_client l = some_is n (Client (slot + 1)) (slice_get (nodes_of s.slots) slot) at_slot (client_in s.slots slot (slot + 1) l refl)

  pub is_no_client : s.slots.clients ≤ slot → (c : ℕ) → same_node (Client c) n ≡ false
  is_no_client l c = not_node (Client c) n
      (λ same. absurd (past (in_range c s.slots.clients) refl (slot_of_node s.slots slot (Client c) (at_slot ∙ ap (λ k. Some k) (sym same)))))
    where
      past : (t : Bool) → in_range c s.slots.clients ≡ t → cond t (Some (c - 1)) None ≡ Some slot → ⊥
      past true e f =
          let place : c - 1 ≡ slot = some_is (c - 1) slot (Some (c - 1)) refl f in
          let low : 0 < c = grind (arith, nat_tests) in
          let high : c ≤ s.slots.clients = grind (arith, nat_tests) in
          omega arith
      past false e f = cc f

  pub stops : (s' : Mailboxes) (b new : Mailbox) → s'.slots ≡ s.slots → s'.mail ≡ s.mail → s'.receivers ≡ s.receivers →
      s'.boxes.items ≡ set s.boxes.items slot new →
      AreWaiting s.slots.clients mail (st ++ n ∷ []) s'.waiting → slot < length s.boxes.items → b ≡ get_or s.boxes.items slot b →
      new.inbox ≡ b.inbox → new.is_stopped ≡ true → AreMailboxes ns mail d (st ++ n ∷ []) s'
  stops s' b new slots sent receivers boxes waiting within there inbox now = record {
    nodes = are.nodes ∙ ap nodes_of (sym slots);
    sent = sent ∙ are.sent;
    receivers = receivers ∙ are.receivers;
    below = are.below;
    each = subst (λ xs. Each Now xs) (sym boxes) (each_with Was Now s.boxes.items slot new are.each here others);
    waiting = subst (λ k. AreWaiting k mail (st ++ n ∷ []) s'.waiting) (ap (λ (v : Counts). v.clients) (sym slots)) waiting;
  }
    where
      Was : ℕ → Mailbox → Type 0
      Was j x = (k : NodeId) → slice_get ns j ≡ Some k → IsMailbox k mail d st x

      Now : ℕ → Mailbox → Type 0
      Now j x = (k : NodeId) → slice_get ns j ≡ Some k → IsMailbox k mail d (st ++ n ∷ []) x

      here : Now slot new
      here = λ k q.
          let is = each_at Was s.boxes.items slot b within there are.each k q in
          let same : same_node k n ≡ true = subst (λ j. same_node k j ≡ true) (some_is k n (slice_get ns slot) q at) (same_self k) in
          record {
            inbox = subst (λ x. IsInboxOf k mail d x) (sym inbox) is.inbox;
            node_stopped = now ∙ sym (stopped_more k n st ∙ (ap (λ t. list_any (same_node k) st || t) same ∙ or_true (list_any (same_node k) st)));
          }

      others : (j : ℕ) (y : Mailbox) → j ≢ slot → Was j y → Now j y
      others j y other was = λ k q.
          let is = was k q in
          record {
            inbox = is.inbox;
            node_stopped = is.node_stopped
                ∙ sym (stopped_more k n st
                ∙ (ap (λ t. list_any (same_node k) st || t) (elsewhere s.slots ns j slot k n are.nodes q at other)
                ∙ or_false (list_any (same_node k) st)));
          }

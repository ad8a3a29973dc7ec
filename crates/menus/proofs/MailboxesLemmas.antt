-- What an envelope that is sent or delivered, or a node that stops, changes in the mailboxes.
use Rattle.std.proofs.Common.{◌≡◌, ◌≢◌, inl, inr, ℕ, ◌<◌, true, false, List, [], ◌∷◌, ◌++◌, Some, length, get_or, set, refl, ap, sym, subst, ◌∙◌}
use Rattle.std.proofs.Common.{arith, length-append}
use Rattle.std.specs.Prelude.{nat_lt}
use Rattle.std.specs.List.{slice_get}
use Rattle.std.proofs.lemmas.Bool.Decides.{nat_tests}
use Rattle.std.proofs.lemmas.List.{map-append}
use Rattle.morty_base.proofs.Orders.{same_node_tells}
use Rattle.protocol.specs.Words.{NodeId, Envelope, same_node}
use Rattle.menus.specs.Inbox.{Arrived, AreBelow, IsInboxOf}
use Rattle.menus.specs.Slots.{Counts, nodes_of, has_node}
use Rattle.menus.specs.Mailbox.{IsMailbox}
use Rattle.menus.specs.Mailboxes.{AreMailboxes, AreInUse}
use Rattle.menus.specs.Waiting.{AreWaiting}
use Rattle.menus.specs.declared.mailbox.Mailbox.{Mailbox}
use Rattle.menus.specs.declared.mailboxes.Mailboxes.{Mailboxes}
use Rattle.menus.proofs.Arriving.{follows}
use Rattle.menus.proofs.EachPlace.{Each, each_at, each_with, some_is}
use Rattle.menus.proofs.SlotsLemmas.{one_slot, is_there}

-- ---- nodes

pub is_node : (n k : NodeId) → same_node n k ≡ true → n ≡ k
is_node n k e = elim (same_node_tells n k) [ inl s ↦ s.1 | inr s ↦ absurd (cc (e, s.0)) ]

pub same_self : (n : NodeId) → same_node n n ≡ true
same_self n = elim (same_node_tells n n) [ inl s ↦ s.0 | inr s ↦ absurd (s.1 refl) ]

pub not_node : (n k : NodeId) → n ≢ k → same_node n k ≡ false
not_node n k h = elim (same_node_tells n k) [ inl s ↦ absurd (h s.1) | inr s ↦ s.0 ]

-- the nodes of other slots are others
pub elsewhere : (v : Counts) (ns : List NodeId) (i j : ℕ) (n k : NodeId) → ns ≡ nodes_of v → slice_get ns i ≡ Some n → slice_get ns j ≡ Some k → i ≢ j →
    same_node n k ≡ false
elsewhere v ns i j n k e p q other = not_node n k (λ same.
    other (one_slot v i j k (ap (λ l. slice_get l i) (sym e) ∙ (p ∙ ap (λ m. Some m) same)) (ap (λ l. slice_get l j) (sym e) ∙ q)))

abbrev pub arrived : List ℕ → List ℕ → Arrived
arrived fresh delivered = record { fresh = fresh; delivered = delivered }

-- ---- an envelope is sent

-- its number is above those that are fresh
pub can_arrive : (s : Mailboxes) (slot number : ℕ) (to : NodeId) (b : Mailbox) → AreInUse s → number ≡ length s.mail →
    slice_get (nodes_of s.slots) slot ≡ Some to →
    slot < length s.boxes.items → b ≡ get_or s.boxes.items slot b → AreBelow number b.inbox.fresh
can_arrive s slot number to b now e at within there =
    let are = now.stand in
    let is = each_at (λ i x.
    (n : NodeId) → slice_get now.nodes i ≡ Some n →
    IsMailbox n now.mail now.delivered now.stopped x) s.boxes.items slot b within there are.each to (ap (λ l. slice_get l slot) are.nodes ∙ at) in
    subst (λ k. AreBelow k b.inbox.fresh) (sym (e ∙ ap length are.sent)) ((follows to now.mail now.delivered).next b.inbox is.inbox)

module _ (ns : List NodeId) (mail : List Envelope) (d : List ℕ) (st : List NodeId) (s : Mailboxes) (are : AreMailboxes ns mail d st s) (m : Envelope) where
  sent_below : AreBelow (length (mail ++ m ∷ [])) d
  sent_below = λ j a. let l : nat_lt j (length mail) ≡ true = are.below j a in let e = length-append mail (m ∷ []) in grind (arith, nat_tests)

  sent_to_other : (n : NodeId) (b : Mailbox) → same_node n m.to ≡ false → IsMailbox n mail d st b → IsMailbox n (mail ++ m ∷ []) d st b
  sent_to_other n b other is = record {
    inbox = (follows n mail d).sent_to_other b.inbox m is.inbox are.below other;
    node_stopped = is.node_stopped;
  }

  -- to a node that has no slot
  pub posted_alone : (s' : Mailboxes) → s'.slots ≡ s.slots → s'.mail ≡ s.mail ++ m ∷ [] → s'.receivers ≡ s.receivers ++ m.to ∷ [] →
      s'.boxes.items ≡ s.boxes.items →
      AreWaiting s.slots.clients (mail ++ m ∷ []) st s'.waiting → has_node s.slots m.to ≡ false → AreMailboxes ns (mail ++ m ∷ []) d st s'
  posted_alone s' slots sent receivers boxes waiting none = record {
    nodes = are.nodes ∙ ap nodes_of (sym slots);
    sent = sent ∙ ap (λ l. l ++ m ∷ []) are.sent;
    receivers = receivers ∙ (ap (λ l. l ++ m.to ∷ []) are.receivers ∙ sym (map-append (λ (e : Envelope). e.to) mail (m ∷ [])));
    below = sent_below;
    each = λ i b e n at. sent_to_other n b (other i n at) (are.each i b (ap (λ l. slice_get l i) (sym boxes) ∙ e) n at);
    waiting = subst (λ k. AreWaiting k (mail ++ m ∷ []) st s'.waiting) (ap (λ (v : Counts). v.clients) (sym slots)) waiting;
  }
    where
      other : (i : ℕ) (n : NodeId) → slice_get ns i ≡ Some n → same_node n m.to ≡ false
      other i n at = not_node n m.to (λ same.
          let there : has_node s.slots m.to ≡ true = is_there s.slots i m.to (ap (λ l. slice_get l i) (sym are.nodes) ∙ (at ∙ ap (λ k. Some k) same)) in
          absurd (cc (none, there)))

  -- to the node of a slot
  pub posted : (s' : Mailboxes) (slot : ℕ) (b new : Mailbox) → s'.slots ≡ s.slots → s'.mail ≡ s.mail ++ m ∷ [] → s'.receivers ≡ s.receivers ++ m.to ∷ [] →
      s'.boxes.items ≡ set s.boxes.items slot new → AreWaiting s.slots.clients (mail ++ m ∷ []) st s'.waiting →
      slice_get (nodes_of s.slots) slot ≡ Some m.to → slot < length s.boxes.items → b ≡ get_or s.boxes.items slot b →
      new.inbox ≡ record { fresh = b.inbox.fresh ++ length mail ∷ []; delivered = b.inbox.delivered } → new.is_stopped ≡ b.is_stopped →
      AreMailboxes ns (mail ++ m ∷ []) d st s'
  posted s' slot b new slots sent receivers boxes waiting at within there inbox same = record {
    nodes = are.nodes ∙ ap nodes_of (sym slots);
    sent = sent ∙ ap (λ l. l ++ m ∷ []) are.sent;
    receivers = receivers ∙ (ap (λ l. l ++ m.to ∷ []) are.receivers ∙ sym (map-append (λ (e : Envelope). e.to) mail (m ∷ [])));
    below = sent_below;
    each = subst (λ xs. Each Now xs) (sym boxes) (each_with Was Now s.boxes.items slot new are.each here others);
    waiting = subst (λ k. AreWaiting k (mail ++ m ∷ []) st s'.waiting) (ap (λ (v : Counts). v.clients) (sym slots)) waiting;
  }
    where
      Was : ℕ → Mailbox → Type 0
      Was i x = (n : NodeId) → slice_get ns i ≡ Some n → IsMailbox n mail d st x

      Now : ℕ → Mailbox → Type 0
      Now i x = (n : NodeId) → slice_get ns i ≡ Some n → IsMailbox n (mail ++ m ∷ []) d st x

      own : slice_get ns slot ≡ Some m.to
      own = ap (λ l. slice_get l slot) are.nodes ∙ at

      here : Now slot new
      here = λ n q.
          let is = each_at Was s.boxes.items slot b within there are.each n q in
          let same_to : same_node n m.to ≡ true = subst (λ k. same_node n k ≡ true) (some_is n m.to (slice_get ns slot) q own) (same_self n) in
          record {
            inbox = subst (λ x. IsInboxOf n (mail ++ m ∷ []) d x) (sym inbox) ((follows n mail d).sent b.inbox m is.inbox are.below same_to);
            node_stopped = same ∙ is.node_stopped;
          }

      others : (i : ℕ) (y : Mailbox) → i ≢ slot → Was i y → Now i y
      others i y other was = λ n q. sent_to_other n y (elsewhere s.slots ns i slot n m.to are.nodes q own other) (was n q)

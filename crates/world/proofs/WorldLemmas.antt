-- The parts of a world stand for the world that a node's move leads to.
use Rattle.std.proofs.Common.{◌≡◌, ◌≢◌, ℕ, List, [], ◌∷◌, ◌++◌, Some, refl, sym, ap, ◌∙◌, subst}
use Rattle.std.specs.Prelude.{◌+◌, ◌^◌, ◌-◌, min, map}
use Rattle.protocol.specs.Words.{NodeId, Envelope}
use Rattle.protocol.specs.Client.State.{Attempt, ClientState}
use Rattle.protocol.specs.World.State.{Plan, World}
use Rattle.protocol.specs.World.Events.{Move, mark, marked}
use Rattle.protocol.specs.World.Committed.{nodes as nodes_of}
use Rattle.world.specs.Clients.{Loads}
use Rattle.world.specs.Nodes.{AreNodes}
use Rattle.world.specs.declared.nodes.Nodes.{Nodes}
use Rattle.menus.specs.Mailboxes.{AreMailboxes}
use Rattle.menus.specs.declared.mailboxes.Mailboxes.{Mailboxes}
use Rattle.world_rows.specs.Notes.{AreNotes, IsBegun}
use Rattle.world_rows.specs.declared.notes.Notes.{Notes}
use Rattle.world_rows.proofs.NotesLemmas.{same_notes}
use Rattle.world_rows.specs.Machine.{events_in}
use Rattle.world.specs.World.{IsWorld, with_sent, counted}
use Rattle.world.specs.declared.parts.Parts.{Parts}
use Rattle.world.proofs.Keeping.{KeepsRest}
use Rattle.world.proofs.Begun.{GoesOn}

same_boxes : (ns : List NodeId) (mail mail' : List Envelope) (d d' : List ℕ) (st st' : List NodeId) (s : Mailboxes) → mail' ≡ mail → d' ≡ d → st' ≡ st →
    AreMailboxes ns mail d st s → AreMailboxes ns mail' d' st' s
same_boxes ns mail mail' d d' st st' s a b c h =
    subst (λ m. AreMailboxes ns m d' st' s) (sym a) (subst (λ i. AreMailboxes ns mail i st' s) (sym b) (subst (λ n. AreMailboxes ns mail d n s) (sym c) h))

-- a node moved, and all else stayed
pub node_moved : (l : Loads) (w : World) (v : Move) (s : Parts) (after : Nodes) → IsWorld l w s → KeepsRest w v → AreNodes l v.world after →
    IsWorld l v.world (record s { nodes = after })
node_moved l w v s after is keeps nodes = record {
  codes = is.codes;
  firsts = is.firsts;
  txns = is.txns;
  nodes = nodes;
  slots = is.slots;
  boxes = same_boxes (nodes_of l.plan) w.mail v.world.mail w.delivered v.world.delivered w.stopped v.world.stopped s.boxes keeps.mail keeps.delivered keeps.stopped is.boxes;
  notes = subst (λ m. AreNotes m (λ c. (v.world.client c).attempts) s.notes) (sym keeps.mail)
      (same_notes w.mail (λ c. (w.client c).attempts) (λ c. (v.world.client c).attempts) s.notes keeps.attempts is.notes);
  moved = is.moved ∙ ap (λ (n : ℕ). min n (2 ^ 64 - 1)) (sym keeps.moved);
}

-- an envelope is marked as delivered
pub envelope_marked : (l : Loads) (i : ℕ) (v : Move) (s : Parts) (after : Mailboxes) → after.slots ≡ s.boxes.slots → IsWorld l v.world s →
    AreMailboxes (nodes_of l.plan) v.world.mail (marked i v.world.delivered) v.world.stopped after → IsWorld l (mark i v).world (record s { boxes = after })
envelope_marked l i v s after same is boxes = record {
  codes = is.codes;
  firsts = is.firsts;
  txns = is.txns;
  nodes = record { clients = is.nodes.clients; replicas = is.nodes.replicas; wardens = is.nodes.wardens };
  slots = same ∙ is.slots;
  boxes = boxes;
  notes = is.notes;
  moved = is.moved;
}

-- a node is stopped
pub node_stopped : (l : Loads) (w : World) (n : NodeId) (s : Parts) (after : Mailboxes) → after.slots ≡ s.boxes.slots → IsWorld l w s →
    AreMailboxes (nodes_of l.plan) w.mail w.delivered (w.stopped ++ n ∷ []) after → IsWorld l (record w { stopped = w.stopped ++ n ∷ [] }) (record s { boxes = after })
node_stopped l w n s after same is boxes = record {
  codes = is.codes;
  firsts = is.firsts;
  txns = is.txns;
  nodes = record { clients = is.nodes.clients; replicas = is.nodes.replicas; wardens = is.nodes.wardens };
  slots = same ∙ is.slots;
  boxes = boxes;
  notes = is.notes;
  moved = is.moved;
}

-- an envelope is sent
pub envelope_sent : (l : Loads) (w : World) (m : Envelope) (s : Parts) (boxes : Mailboxes) (notes : Notes) → boxes.slots ≡ s.boxes.slots → IsWorld l w s →
    AreMailboxes (nodes_of l.plan) (w.mail ++ m ∷ []) w.delivered w.stopped boxes → AreNotes (w.mail ++ m ∷ []) (λ c. (w.client c).attempts) notes →
    IsWorld l (with_sent w (m ∷ [])) (record s { boxes = boxes; notes = notes })
envelope_sent l w m s boxes notes same is sent noted = record {
  codes = is.codes;
  firsts = is.firsts;
  txns = is.txns;
  nodes = record { clients = is.nodes.clients; replicas = is.nodes.replicas; wardens = is.nodes.wardens };
  slots = same ∙ is.slots;
  boxes = sent;
  notes = noted;
  moved = is.moved;
}

-- a client goes, and its attempt is noted
pub client_gone : (l : Loads) (w : World) (c : ℕ) (v : Move) (s : Parts) (nodes : Nodes) (notes : Notes) → IsWorld l w s → GoesOn l.plan w c v → AreNodes l v.world nodes →
    AreNotes w.mail (λ d. (v.world.client d).attempts) notes → IsWorld l v.world (record s { nodes = nodes; notes = notes })
client_gone l w c v s nodes notes is goes are noted = record {
  codes = is.codes;
  firsts = is.firsts;
  txns = is.txns;
  nodes = are;
  slots = is.slots;
  boxes = same_boxes (nodes_of l.plan) w.mail v.world.mail w.delivered v.world.delivered w.stopped v.world.stopped s.boxes goes.mail goes.delivered goes.stopped is.boxes;
  notes = subst (λ m. AreNotes m (λ d. (v.world.client d).attempts) notes) (sym goes.mail) noted;
  moved = is.moved ∙ ap (λ (n : ℕ). min n (2 ^ 64 - 1)) (sym goes.moved);
}

-- the attempt that a client begins is noted as its newest
pub begun_noted : (p : Plan) (w : World) (c : ℕ) (v : Move) → GoesOn p w c v →
    IsBegun (record { ver = (v.world.client c).exec.ver; txn = (v.world.client c).begun; try = (v.world.client c).try }) (λ d. (w.client d).attempts) (λ d. (v.world.client d).attempts)
begun_noted p w c v goes = record {
  here = subst (λ d. (v.world.client d).attempts ≡ record { ver = (v.world.client c).exec.ver; txn = (v.world.client c).begun; try = (v.world.client c).try } ∷ (w.client d).attempts)
      (sym goes.own.client) goes.own.attempts;
  others = λ d other. ap (λ (s : ClientState). s.attempts) (goes.others d (λ e. other (e ∙ sym goes.own.client)));
}

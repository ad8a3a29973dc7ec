-- The head of a frame, and the frame.
use Rattle.std.specs.Prelude.{ℕ, Bool, ◌&&◌, nat_le, List, [], ◌∷◌, Ok, Err, if◌then◌else◌}
use Rattle.morty_base.specs.declared.names.NodeId.{NodeId}
use Rattle.morty_base.specs.declared.names.NodeId.TheVariants as nodes
use Rattle.msg.specs.declared.Envelope.{Envelope}
use Rattle.wire.specs.declared.fault.FrameFault.TheVariants as faults
use Rattle.wire.specs.declared.head.Kind.{Kind}
use Rattle.wire.specs.declared.head.Kind.TheVariants as kinds
use Rattle.wire.specs.declared.head.Head.{Head}
use Rattle.wire.specs.Field.{◌>>=◌, Field, Judged, u8, named, ◌&◌, tagged, built, shaped, checked}
use Rattle.wire.specs.Bodies.{fields, parts, body_of, HasContentForCommit}

-- ---- nodes

pub data NodeKind : Type 0 where
  client : NodeKind
  replica : NodeKind
  warden : NodeKind

abbrev pub node_code : NodeKind → ℕ
node_code client = 1
node_code replica = 2
node_code warden = 3

-- how many nodes of each kind there may be
abbrev pub most_nodes : NodeKind → ℕ
most_nodes client = 16
most_nodes replica = 5
most_nodes warden = 2

abbrev pub node_parts : NodeId → NodeKind × ℕ
node_parts (nodes.Client n) = (client, n)
node_parts (nodes.Replica n) = (replica, n)
node_parts (nodes.Warden n) = (warden, n)

abbrev pub node_of : NodeKind → ℕ → NodeId
node_of client n = nodes.Client n
node_of replica n = nodes.Replica n
node_of warden n = nodes.Warden n

-- nodes are numbered from 1
abbrev pub is_counted : NodeKind × ℕ → Bool
is_counted p = nat_le 1 p.1 && nat_le p.1 (most_nodes p.0)

unfoldable pub node_kind : Field NodeKind
node_kind = named (client ∷ replica ∷ warden ∷ []) node_code

unfoldable pub node : Field NodeId
node = shaped node_parts (λ p. node_of p.0 p.1) (checked faults.Count is_counted (node_kind & u8))

-- a node's number, from 1 to `most`
abbrev pub place_at : ℕ → List ℕ → Judged ℕ
place_at most bytes = u8.judged bytes >>= λ n. if nat_le 1 n.0 && nat_le n.0 most then Ok n else Err faults.Count

-- ---- the head, and the whole

unfoldable pub wire_version : Field (Unit {0})
wire_version = named (tt ∷ []) (λ x. 1)

abbrev pub all_kinds : List Kind
all_kinds =
    kinds.Get ∷ kinds.Note ∷ kinds.Puts ∷ kinds.Prepare ∷ kinds.Vote ∷ kinds.Finalize ∷ kinds.Accepted ∷ kinds.Decide
    ∷ kinds.Ask ∷ kinds.Told ∷ kinds.Fence ∷ kinds.Fenced ∷ kinds.Drop ∷ kinds.TooOld ∷ []

abbrev pub kind_code : Kind → ℕ
kind_code kinds.Get = 1
kind_code kinds.Note = 2
kind_code kinds.Puts = 3
kind_code kinds.Prepare = 4
kind_code kinds.Vote = 5
kind_code kinds.Finalize = 6
kind_code kinds.Accepted = 7
kind_code kinds.Decide = 8
kind_code kinds.Ask = 9
kind_code kinds.Told = 10
kind_code kinds.Fence = 11
kind_code kinds.Fenced = 12
kind_code kinds.Drop = 13
kind_code kinds.TooOld = 14

unfoldable pub kind : Field Kind
kind = named all_kinds kind_code

-- the wire version, the kind, the sender and the receiver
unfoldable pub head : Field Head
head = shaped (λ h. (tt, (h.kind, (h.from, h.to)))) (λ p. record { kind = p.1.0; from = p.1.1.0; to = p.1.1.1 }) (wire_version & kind & node & node)

-- the head says which fields come after it
unfoldable pub envelope : Field Envelope
envelope = built (λ m. HasContentForCommit m.body)
    (λ m. (record { kind = (parts m.body).0; from = m.from; to = m.to }, (parts m.body).1))
    (λ p. record { from = p.0.from; to = p.0.to; body = body_of p.0.kind p.1 })
    (tagged head (λ h. fields h.kind))

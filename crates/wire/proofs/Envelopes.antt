-- The frame of an envelope is exact.
use Rattle.std.proofs.Common.{◌≡◌, ℕ, List, [], ◌∷◌, Some, Ok, Err, refl, sym, ap}
use Rattle.std.specs.Prelude.{◌==◌}
use Rattle.std.specs.List.{find}
use Rattle.morty_base.specs.declared.names.NodeId.{NodeId}
use Rattle.morty_base.specs.declared.names.NodeId.TheVariants as nodes
use Rattle.msg.specs.declared.Body.{Body}
use Rattle.msg.specs.declared.Body.TheVariants as bodies
use Rattle.msg.specs.declared.Envelope.{Envelope}
use Rattle.wire.specs.declared.fault.FrameFault.TheVariants as faults
use Rattle.wire.specs.declared.head.Kind.{Kind}
use Rattle.wire.specs.declared.head.Kind.TheVariants as kinds
use Rattle.wire.specs.declared.head.Head.{Head}
use Rattle.wire.specs.Field.{◌>>=◌, Judged}
use Rattle.wire.specs.Bodies.{Parts, fields, parts, body_of, HasContentForCommit, body_at}
use Rattle.wire.specs.Frame.{NodeKind, client, replica, warden, node_code, node_parts, node_of, node_kind, is_counted, node, wire_version, kind, all_kinds, kind_code, head, envelope}
use Rattle.wire.proofs.Exact.{IsExact, u8_exact, i64_exact, named_exact}
use Rattle.wire.proofs.Making.{both_exact, tagged_exact, built_exact, shaped_exact, checked_exact, optional_exact}
use Rattle.wire.proofs.Values.{version_exact, exec_exact, wid_exact, key_exact, view_exact, flag_exact, vote_exact, told_vote_exact, decided_exact, writes_exact, content_exact, chosen_exact, base_exact, kept_exact, accept_exact}

-- ---- bodies

fields_exact : (k : Kind) → IsExact (fields k)
unfolding fields
fields_exact kinds.Get = both_exact exec_exact key_exact
fields_exact kinds.Note =
    both_exact version_exact (both_exact key_exact (both_exact wid_exact (both_exact i64_exact (both_exact flag_exact (optional_exact wid_exact)))))
fields_exact kinds.Puts = both_exact exec_exact writes_exact
fields_exact kinds.Prepare = both_exact exec_exact content_exact
fields_exact kinds.Vote = both_exact exec_exact vote_exact
fields_exact kinds.Finalize = both_exact exec_exact (both_exact view_exact chosen_exact)
fields_exact kinds.Accepted = both_exact exec_exact view_exact
fields_exact kinds.Decide = both_exact exec_exact chosen_exact
fields_exact kinds.Ask = both_exact exec_exact view_exact
fields_exact kinds.Told =
    both_exact exec_exact (both_exact view_exact (both_exact told_vote_exact (both_exact (optional_exact accept_exact)
    (both_exact decided_exact chosen_exact))))
fields_exact kinds.Fence = version_exact
fields_exact kinds.Fenced = both_exact version_exact (both_exact base_exact (both_exact kept_exact kept_exact))
fields_exact kinds.Drop = both_exact version_exact base_exact
fields_exact kinds.TooOld = both_exact version_exact version_exact

body_back : (b : Body) → HasContentForCommit b → body_of (parts b).0 (parts b).1 ≡ b
body_back (bodies.Get x k) h = refl
body_back (bodies.Note v k d value sure old) h = refl
body_back (bodies.Puts x ws) h = refl
body_back (bodies.Prepare x c) h = refl
body_back (bodies.Vote x v) h = refl
body_back (bodies.Finalize x n b c) h = ap (λ y. bodies.Finalize x n y c) (sym h)
body_back (bodies.Accepted x n) h = refl
body_back (bodies.Decide x b c) h = ap (λ y. bodies.Decide x y c) (sym h)
body_back (bodies.Ask x n) h = refl
body_back (bodies.Told x n v a d c) h = refl
body_back (bodies.Fence w) h = refl
body_back (bodies.Fenced w b c v) h = refl
body_back (bodies.Drop w b) h = refl
body_back (bodies.TooOld v w) h = refl

record IsPut (k : Kind) (p : Parts k) : Type 0 where
  pub same : parts (body_of k p) ≡ (k, p)
  pub whole : HasContentForCommit (body_of k p)

is_put : (k : Kind) (p : Parts k) → IsPut k p
is_put kinds.Get p = record { same = refl; whole = tt }
is_put kinds.Note p = record { same = refl; whole = tt }
is_put kinds.Puts p = record { same = refl; whole = tt }
is_put kinds.Prepare p = record { same = refl; whole = tt }
is_put kinds.Vote p = record { same = refl; whole = tt }
is_put kinds.Finalize p = record { same = refl; whole = refl }
is_put kinds.Accepted p = record { same = refl; whole = tt }
is_put kinds.Decide p = record { same = refl; whole = refl }
is_put kinds.Ask p = record { same = refl; whole = tt }
is_put kinds.Told p = record { same = refl; whole = tt }
is_put kinds.Fence p = record { same = refl; whole = tt }
is_put kinds.Fenced p = record { same = refl; whole = tt }
is_put kinds.Drop p = record { same = refl; whole = tt }
is_put kinds.TooOld p = record { same = refl; whole = tt }

-- ---- the head, and the whole

abbrev node_kinds : List NodeKind
node_kinds = client ∷ replica ∷ warden ∷ []

node_kind_first : (k : NodeKind) → find (λ y. node_code y == node_code k) node_kinds ≡ Some k
node_kind_first client = refl
node_kind_first replica = refl
node_kind_first warden = refl

node_kind_exact : IsExact node_kind
unfolding node_kind
node_kind_exact = named_exact node_kinds node_code node_kind_first

node_back : (n : NodeId) → node_of (node_parts n).0 (node_parts n).1 ≡ n
node_back (nodes.Client n) = refl
node_back (nodes.Replica n) = refl
node_back (nodes.Warden n) = refl

node_same : (k : NodeKind) (n : ℕ) → node_parts (node_of k n) ≡ (k, n)
node_same client n = refl
node_same replica n = refl
node_same warden n = refl

node_exact : IsExact node
unfolding node
node_exact = shaped_exact node_parts (λ p. node_of p.0 p.1) node_back (λ p. node_same p.0 p.1)
    (checked_exact faults.Count is_counted (both_exact node_kind_exact u8_exact))

abbrev one : List (Unit {0})
one = tt ∷ []

wire_version_first : (x : Unit {0}) → find (λ y. 1 == 1) one ≡ Some x
wire_version_first x = refl

wire_version_exact : IsExact wire_version
unfolding wire_version
wire_version_exact = named_exact one (λ x. 1) wire_version_first

kind_first : (k : Kind) → find (λ y. kind_code y == kind_code k) all_kinds ≡ Some k
kind_first kinds.Get = refl
kind_first kinds.Note = refl
kind_first kinds.Puts = refl
kind_first kinds.Prepare = refl
kind_first kinds.Vote = refl
kind_first kinds.Finalize = refl
kind_first kinds.Accepted = refl
kind_first kinds.Decide = refl
kind_first kinds.Ask = refl
kind_first kinds.Told = refl
kind_first kinds.Fence = refl
kind_first kinds.Fenced = refl
kind_first kinds.Drop = refl
kind_first kinds.TooOld = refl

kind_exact : IsExact kind
unfolding kind
kind_exact = named_exact all_kinds kind_code kind_first

head_exact : IsExact head
unfolding head
head_exact = shaped_exact _ _ (λ h. refl) (λ p. refl) (both_exact wire_version_exact (both_exact kind_exact (both_exact node_exact node_exact)))

pub envelope_exact : IsExact envelope
unfolding envelope
envelope_exact = built_exact _ _ _
    (λ m h. ap (λ b. record { from = m.from; to = m.to; body = b }) (body_back m.body h))
    (λ p. ap (λ (q : (k : Kind) × Parts k). (record { kind = q.0; from = p.0.from; to = p.0.to }, q.1)) ((is_put p.0.kind p.1).same))
    (λ p. (is_put p.0.kind p.1).whole)
    (tagged_exact head (λ h. fields h.kind) head_exact (λ h. fields_exact h.kind))

-- an envelope is judged by its head, and then by its body
abbrev Fields : Type 0
Fields = (h : Head) × Parts h.kind

abbrev paired : (h : Head) → Parts h.kind × List ℕ → Judged Fields
paired h y = Ok ((h, y.0), y.1)

abbrev whole : Fields → Envelope
whole p = record { from = p.0.from; to = p.0.to; body = body_of p.0.kind p.1 }

abbrev addressed : Head → Body × List ℕ → Judged Envelope
addressed h b = Ok (record { from = h.from; to = h.to; body = b.0 }, b.1)

after_head : (h : Head) (r : Judged (Parts h.kind))
    → ((r >>= paired h) >>= λ x. Ok (whole x.0, x.1)) ≡ ((r >>= λ x. Ok (body_of h.kind x.0, x.1)) >>= addressed h)
after_head h (Ok y) = refl
after_head h (Err f) = refl

by_head : (r : Judged Head)
    → ((r >>= λ h. (fields h.0.kind).judged h.1 >>= paired h.0) >>= λ x. Ok (whole x.0, x.1)) ≡ (r >>= λ h. body_at h.0.kind h.1 >>= addressed h.0)
by_head (Ok h) = after_head h.0 ((fields h.0.kind).judged h.1)
by_head (Err f) = refl

pub envelope_at : (bytes : List ℕ)
    → envelope.judged bytes ≡ (head.judged bytes >>= λ h. body_at h.0.kind h.1 >>= λ b. Ok (record { from = h.0.from; to = h.0.to; body = b.0 }, b.1))
unfolding envelope
envelope_at bytes = by_head (head.judged bytes)

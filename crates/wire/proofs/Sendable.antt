-- An envelope may be sent exactly where the field of the whole frame admits it.
use Rattle.std.proofs.Common.{◌≡◌, ℕ, ◌≤◌, Bool, true, List, [], ◌∷◌, length, Option, Some, None, refl, arith}
use Rattle.std.specs.Prelude.{IfSome, nat_le, ◌&&◌}
use Rattle.std.specs.List.{AllByRecursion}
use Rattle.std.proofs.lemmas.Bool.Decides.{nat_tests}
use Rattle.std.proofs.lemmas.List.Elements.{All-from_recursion, recursion_from_All}
use Rattle.morty_base.specs.declared.names.NodeId.{NodeId}
use Rattle.morty_base.specs.declared.names.NodeId.TheVariants as nodes
use Rattle.morty_base.specs.Names.{key_before, exec_before}
use Rattle.msg.specs.declared.Read.{Read}
use Rattle.msg.specs.declared.Write.{Write}
use Rattle.msg.specs.declared.Content.{Content}
use Rattle.msg.specs.declared.Kept.{Kept}
use Rattle.msg.specs.declared.BaseEntry.{BaseEntry}
use Rattle.msg.specs.declared.Body.{Body}
use Rattle.msg.specs.declared.Body.TheVariants as bodies
use Rattle.msg.specs.declared.Envelope.{Envelope}
use Rattle.wire.specs.Field.{AllInTurn, u8, u16, u32, u64, i64}
use Rattle.wire.specs.Values.{version, exec, wid, key, view, flag, vote, told_vote, choice, decided, ending, write, read, reads, writes, out, content, chosen, base_key, base_entry, base, kept_exec, kept_entry, kept, accept, most_short}
use Rattle.wire.specs.Bodies.{fields, BodyAdmits, HasContentForCommit}
use Rattle.wire.specs.Frame.{node, node_kind, head, envelope, wire_version, kind}
use Rattle.wire.specs.Sendable.{IsNumbered, IsShort, IsBelowFirst, Rises, IsBase, IsKept, IsFit, MaySend}

-- ---- nodes

within : (n most : ℕ) → 1 ≤ n → n ≤ most → (nat_le 1 n && nat_le n most) ≡ true
within n most low high = grind (arith, nat_tests)

within_of : (n most : ℕ) → (nat_le 1 n && nat_le n most) ≡ true → (1 ≤ n) × (n ≤ most)
within_of n most e = grind (arith, nat_tests)

node_admits : (n : NodeId) → IsNumbered n → node.Admits n
unfolding node node_kind u8
node_admits (nodes.Client n) h = (within n 16 h.0 h.1, (tt, tt))
node_admits (nodes.Replica n) h = (within n 5 h.0 h.1, (tt, tt))
node_admits (nodes.Warden n) h = (within n 2 h.0 h.1, (tt, tt))

node_admitted : (n : NodeId) → node.Admits n → IsNumbered n
unfolding node
node_admitted (nodes.Client n) h = within_of n 16 h.0
node_admitted (nodes.Replica n) h = within_of n 5 h.0
node_admitted (nodes.Warden n) h = within_of n 2 h.0

-- ---- plain values, which their fields always admit

version_free : (v : _) → version.Admits v
unfolding version u64 u32
version_free v = (tt, tt)

exec_free : (x : _) → exec.Admits x
unfolding exec u32
exec_free x = (version_free x.ver, tt)

wid_free : (d : _) → wid.Admits d
unfolding wid u32
wid_free d = (version_free d.ver, (tt, tt))

key_free : (k : _) → key.Admits k
unfolding key u16 i64
key_free k = (tt, tt)

view_free : (n : ℕ) → view.Admits n
unfolding view u32
view_free n = tt

i64_free : (z : _) → i64.Admits z
unfolding i64
i64_free z = tt

read_free : (r : Read) → read.Admits r
unfolding read
read_free r = (key_free r.key, (wid_free r.wid, i64_free r.value))

write_free : (w : Write) → write.Admits w
unfolding write
write_free w = (key_free w.key, i64_free w.value)

accept_free : (o : _) → IfSome o accept.Admits
unfolding accept view u32 choice
accept_free None = tt
accept_free (Some a) = (tt, tt)

gone_free : (o : _) → IfSome o wid.Admits
gone_free None = tt
gone_free (Some d) = wid_free d

-- ---- lists

items_free : {A : Type 0} (P : A → Type 0) → ((x : A) → P x) → (before : Option A) (xs : List A) → AllInTurn (λ b. P) before xs
items_free P free before [] = tt
items_free P free before (x ∷ xs) = (free x, items_free P free (Some x) xs)

-- an item is admitted where what is asked of it alone holds, and it stands above the item before it
record IsRising {A : Type 0} (earlier : A → A → Bool) (Q : A → Type 0) (P : Option A → A → Type 0) : Type 0 where
  pub first : (x : A) → Q x → P None x
  pub later : (x y : A) → Q y → earlier x y ≡ true → P (Some x) y
  pub order : (x y : A) → P (Some x) y → earlier x y ≡ true
  pub alone : (before : Option A) (x : A) → P before x → Q x

in_turn_after : {A : Type 0} {earlier : A → A → Bool} {Q : A → Type 0} {P : Option A → A → Type 0} → IsRising earlier Q P
    → (x : A) (xs : List A) → IsBelowFirst earlier x xs → Rises earlier xs → AllByRecursion Q xs → AllInTurn P (Some x) xs
in_turn_after h x [] below rises each = tt
in_turn_after h x (y ∷ ys) below rises each = (h.later x y each.0 below, in_turn_after h y ys rises.0 rises.1 each.1)

in_turn : {A : Type 0} {earlier : A → A → Bool} {Q : A → Type 0} {P : Option A → A → Type 0} → IsRising earlier Q P
    → (xs : List A) → Rises earlier xs → AllByRecursion Q xs → AllInTurn P None xs
in_turn h [] rises each = tt
in_turn h (x ∷ xs) rises each = (h.first x each.0, in_turn_after h x xs rises.0 rises.1 each.1)

below_first : {A : Type 0} {earlier : A → A → Bool} {Q : A → Type 0} {P : Option A → A → Type 0} → IsRising earlier Q P
    → (x : A) (xs : List A) → AllInTurn P (Some x) xs → IsBelowFirst earlier x xs
below_first h x [] all = tt
below_first h x (y ∷ ys) all = h.order x y all.0

rises_of : {A : Type 0} {earlier : A → A → Bool} {Q : A → Type 0} {P : Option A → A → Type 0} → IsRising earlier Q P
    → (before : Option A) (xs : List A) → AllInTurn P before xs → Rises earlier xs
rises_of h before [] all = tt
rises_of h before (x ∷ xs) all = (below_first h x xs all.1, rises_of h (Some x) xs all.1)

each_of : {A : Type 0} {earlier : A → A → Bool} {Q : A → Type 0} {P : Option A → A → Type 0} → IsRising earlier Q P
    → (before : Option A) (xs : List A) → AllInTurn P before xs → AllByRecursion Q xs
each_of h before [] all = tt
each_of h before (x ∷ xs) all = (h.alone before x all.0, each_of h (Some x) xs all.1)

-- ---- contents, bases and what was kept

content_admits : (c : Content) → IsShort c → content.Admits c
unfolding content reads writes out ending
content_admits c h =
    ((h.reads, items_free _ read_free None c.reads), ((h.writes, items_free _ write_free None c.writes), ((h.out, items_free _ i64_free None c.out), tt)))

content_short : (c : Content) → content.Admits c → IsShort c
unfolding content reads writes out
content_short c h = record { reads = h.0.0; writes = h.1.0.0; out = h.1.1.0.0 }

chosen_admits : (o : Option Content) → IfSome o IsShort → chosen.Admits o
unfolding chosen
chosen_admits None h = tt
chosen_admits (Some c) h = content_admits c h

chosen_short : (o : Option Content) → chosen.Admits o → IfSome o IsShort
unfolding chosen
chosen_short None h = tt
chosen_short (Some c) h = content_short c h

writes_admits : (ws : List Write) → length ws ≤ most_short → writes.Admits ws
unfolding writes
writes_admits ws h = (h, items_free _ write_free None ws)

writes_short : (ws : List Write) → writes.Admits ws → length ws ≤ most_short
unfolding writes
writes_short ws h = h.0

base_rising : IsRising (λ d e. key_before d.key e.key) (λ e. Unit {0}) (λ b. (base_entry b).Admits)
unfolding base_entry base_key
base_rising = record {
  first = λ e h. ((refl, key_free e.key), (wid_free e.wid, i64_free e.value));
  later = λ d e h lt. ((lt, key_free e.key), (wid_free e.wid, i64_free e.value));
  order = λ d e h. h.0.0;
  alone = λ b e h. tt;
}

all_plain : (es : List BaseEntry) → AllByRecursion (λ e. Unit {0}) es
all_plain [] = tt
all_plain (e ∷ es) = (tt, all_plain es)

base_admits : (es : List BaseEntry) → IsBase es → base.Admits es
unfolding base
base_admits es h = (h.count, in_turn base_rising es h.rising (all_plain es))

is_base : (es : List BaseEntry) → base.Admits es → IsBase es
unfolding base
is_base es h = record { count = h.0; rising = rises_of base_rising None es h.1 }

kept_rising : IsRising (λ d e. exec_before d.exec e.exec) (λ e. IsShort e.content) (λ b. (kept_entry b).Admits)
unfolding kept_entry kept_exec
kept_rising = record {
  first = λ e h. ((refl, exec_free e.exec), content_admits e.content h);
  later = λ d e h lt. ((lt, exec_free e.exec), content_admits e.content h);
  order = λ d e h. h.0.0;
  alone = λ b e h. content_short e.content h.1;
}

kept_admits : (es : List Kept) → IsKept es → kept.Admits es
unfolding kept
kept_admits es h = (h.count, in_turn kept_rising es h.rising (recursion_from_All (λ e. IsShort e.content) es h.short))

is_kept : (es : List Kept) → kept.Admits es → IsKept es
unfolding kept
is_kept es h = record {
  count = h.0;
  rising = rises_of kept_rising None es h.1;
  short = All-from_recursion (λ e. IsShort e.content) es (each_of kept_rising None es h.1);
}

-- ---- bodies

body_admits : (b : Body) → IsFit b → BodyAdmits b
unfolding fields flag vote told_vote decided
body_admits (bodies.Get x k) h = (exec_free x, key_free k)
body_admits (bodies.Note v k d value sure old) h = (version_free v, (key_free k, (wid_free d, (i64_free value, (tt, gone_free old)))))
body_admits (bodies.Puts x ws) h = (exec_free x, writes_admits ws h)
body_admits (bodies.Prepare x c) h = (exec_free x, content_admits c h)
body_admits (bodies.Vote x v) h = (exec_free x, tt)
body_admits (bodies.Finalize x n b c) h = (exec_free x, (view_free n, chosen_admits c h.1))
body_admits (bodies.Accepted x n) h = (exec_free x, view_free n)
body_admits (bodies.Decide x b c) h = (exec_free x, chosen_admits c h.1)
body_admits (bodies.Ask x n) h = (exec_free x, view_free n)
body_admits (bodies.Told x n v a d c) h = (exec_free x, (view_free n, (tt, (accept_free a, (tt, chosen_admits c h)))))
body_admits (bodies.Fence w) h = version_free w
body_admits (bodies.Fenced w b c v) h = (version_free w, (base_admits b h.0, (kept_admits c h.1, kept_admits v h.2)))
body_admits (bodies.Drop w b) h = (version_free w, base_admits b h)
body_admits (bodies.TooOld v w) h = (version_free v, version_free w)

has_content : (b : Body) → IsFit b → HasContentForCommit b
has_content (bodies.Finalize x n b c) h = h.0
has_content (bodies.Decide x b c) h = h.0
has_content (bodies.Get x k) h = tt
has_content (bodies.Note v k d value sure old) h = tt
has_content (bodies.Puts x ws) h = tt
has_content (bodies.Prepare x c) h = tt
has_content (bodies.Vote x v) h = tt
has_content (bodies.Accepted x n) h = tt
has_content (bodies.Ask x n) h = tt
has_content (bodies.Told x n v a d c) h = tt
has_content (bodies.Fence w) h = tt
has_content (bodies.Fenced w b c v) h = tt
has_content (bodies.Drop w b) h = tt
has_content (bodies.TooOld v w) h = tt

is_fit : (b : Body) → HasContentForCommit b → BodyAdmits b → IsFit b
unfolding fields
is_fit (bodies.Get x k) c h = tt
is_fit (bodies.Note v k d value sure old) c h = tt
is_fit (bodies.Puts x ws) c h = writes_short ws h.1
is_fit (bodies.Prepare x content) c h = content_short content h.1
is_fit (bodies.Vote x v) c h = tt
is_fit (bodies.Finalize x n b content) c h = (c, chosen_short content h.1.1)
is_fit (bodies.Accepted x n) c h = tt
is_fit (bodies.Decide x b content) c h = (c, chosen_short content h.1)
is_fit (bodies.Ask x n) c h = tt
is_fit (bodies.Told x n v a d content) c h = chosen_short content h.1.1.1.1.1
is_fit (bodies.Fence w) c h = tt
is_fit (bodies.Fenced w b committed voted) c h = (is_base b h.1.0, is_kept committed h.1.1.0, is_kept voted h.1.1.1)
is_fit (bodies.Drop w b) c h = is_base b h.1
is_fit (bodies.TooOld v w) c h = tt

-- ---- the whole

-- what an envelope's writer needs of it
pub record Writes (m : Envelope) : Type 0 where
  pub from : node.Admits m.from
  pub to : node.Admits m.to
  pub body : BodyAdmits m.body

pub may_write : (m : Envelope) → MaySend m → Writes m
may_write m h = record { from = node_admits m.from h.from; to = node_admits m.to h.to; body = body_admits m.body h.body }

pub admits : (m : Envelope) → MaySend m → envelope.Admits m
unfolding envelope head wire_version kind
admits m h = (has_content m.body h.body, ((tt, (tt, (node_admits m.from h.from, node_admits m.to h.to))), body_admits m.body h.body))

pub may_send : (m : Envelope) → envelope.Admits m → MaySend m
unfolding envelope head
may_send m h = record { from = node_admitted m.from h.1.0.1.1.0; to = node_admitted m.to h.1.0.1.1.1; body = is_fit m.body h.0 h.1.1 }

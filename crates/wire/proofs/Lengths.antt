-- How many bytes each field takes.
use Rattle.std.proofs.Common.{◌≡◌, ℕ, ◌+◌, ◌*◌, ◌<◌, List, [], ◌∷◌, ◌++◌, length, get_or, take, Some, None, refl, sym, ap, ◌∙◌, arith, length-append}
use Rattle.std.specs.List.{flat_map}
use Rattle.std.proofs.Math.Nat.{suc-mul, zero-mul}
use Rattle.std.proofs.lemmas.Grind.{flat_map-append}
use Rattle.std.proofs.lemmas.List.{take_more}
use Rattle.std.proofs.lemmas.List.Concat.{flat_map-cons}
use Rattle.morty_base.specs.declared.names.Version.{Version}
use Rattle.morty_base.specs.declared.names.Exec.{Exec}
use Rattle.morty_base.specs.declared.names.Wid.{Wid}
use Rattle.msg.specs.declared.Read.{Read}
use Rattle.msg.specs.declared.Write.{Write}
use Rattle.msg.specs.declared.Content.{Content}
use Rattle.msg.specs.declared.Accept.{Accept}
use Rattle.msg.specs.declared.Kept.{Kept}
use Rattle.msg.specs.declared.BaseEntry.{BaseEntry}
use Rattle.wire.specs.Field.{u8, u16, u32, u64, i64, optional}
use Rattle.msg.specs.declared.Body.{Body}
use Rattle.msg.specs.declared.Body.TheVariants as bodies
use Rattle.msg.specs.declared.Envelope.{Envelope}
use Rattle.wire.specs.declared.head.Head.{Head}
use Rattle.wire.specs.declared.head.Kind.TheVariants as kinds
use Rattle.wire.specs.Bodies.{Parts, fields, parts}
use Rattle.wire.specs.Values.{version, exec, wid, key, view, write, read, reads, writes, out, ending, content, chosen, base_key, base_entry, base, kept_exec, kept_entry, kept, accept, choice, flag, vote, told_vote, decided}
use Rattle.wire.specs.Frame.{node, node_kind, wire_version, kind, head, envelope}
use Rattle.wire.specs.Wire.{frame}

items_length : {A : Type 0} (f : A → List ℕ) (k : ℕ) → ((x : A) → length (f x) ≡ k) → (xs : List A) → length (flat_map f xs) ≡ length xs * k
items_length f k each [] = sym (zero-mul k)
items_length f k each (x ∷ xs) =
    let one = each x in
    let others = items_length f k each xs in
    ap (λ (t : List ℕ). length t) (flat_map-cons f x xs) ∙ omega (arith, length-append (f x) (flat_map f xs), one, others, suc-mul (length xs) k)

version_length : (v : Version) → length (version.frame v) ≡ 12
unfolding version u64 u32
version_length v = refl

exec_length : (x : Exec) → length (exec.frame x) ≡ 16
unfolding exec version u64 u32
exec_length x = refl

wid_length : (d : Wid) → length (wid.frame d) ≡ 20
unfolding wid version u64 u32
wid_length d = refl

read_length : (r : Read) → length (read.frame r) ≡ 38
unfolding read key wid version i64 u64 u32 u16
read_length r = refl

write_length : (w : Write) → length (write.frame w) ≡ 18
unfolding write key i64 u64 u16
write_length w = refl

entry_length : (e : BaseEntry) → length ((base_entry None).frame e) ≡ 38
unfolding base_entry base_key key wid version i64 u64 u32 u16
entry_length e = refl

number_length : (z : _) → length (i64.frame z) ≡ 8
unfolding i64 u64
number_length z = refl

pub content_length : (c : Content) → length (content.frame c) ≡ 7 + 38 * length c.reads + 18 * length c.writes + 8 * length c.out
unfolding content reads writes out ending u16 u8
content_length c =
    let rs = items_length read.frame 38 read_length c.reads in
    let ws = items_length write.frame 18 write_length c.writes in
    let os = items_length i64.frame 8 number_length c.out in
    simp length-append (omega (arith, rs, ws, os))

pub writes_length : (ws : List Write) → length (writes.frame ws) ≡ 2 + 18 * length ws
unfolding writes u16
writes_length ws = omega (arith, items_length write.frame 18 write_length ws)

pub gone_length : (d : Wid) → length ((optional wid).frame (Some d)) ≡ 21
gone_length d = omega (arith, wid_length d)

pub pair_length : (a : Accept) → length ((optional accept).frame (Some a)) ≡ 6
unfolding accept view choice u32 u8
pair_length a = refl

pub base_length : (es : List BaseEntry) → length (base.frame es) ≡ 4 + 38 * length es
unfolding base u32
base_length es = omega (arith, items_length (base_entry None).frame 38 entry_length es)

kept_entry_length : (k : Kept) → length ((kept_entry None).frame k) ≡ 16 + length (content.frame k.content)
unfolding kept_entry kept_exec exec version u64 u32
kept_entry_length k = omega arith

-- one more entry
pub kept_more : (es : List Kept) (i : ℕ) (e : Kept) → i < length es → e ≡ get_or es i e
    → length (flat_map (kept_entry None).frame (take (i + 1) es))
    ≡ length (flat_map (kept_entry None).frame (take i es)) + (16 + length (content.frame e.content))
kept_more es i e lt is =
    let f = (kept_entry None).frame in
    let more : take (i + 1) es ≡ take i es ++ e ∷ [] = take_more es i e lt ∙ ap (λ (x : Kept). take i es ++ x ∷ []) (sym is) in
    let last : flat_map f (e ∷ []) ≡ f e ++ [] = flat_map-cons f e [] in
    ap (λ (xs : List Kept). length (flat_map f xs)) more ∙ ap (λ (t : List ℕ). length t) (flat_map-append f (take i es) (e ∷ []))
    ∙ omega (
      arith,
      length-append (flat_map f (take i es)) (flat_map f (e ∷ [])),
      ap (λ (t : List ℕ). length t) last,
      length-append (f e) [],
      kept_entry_length e,
    )

-- ---- bodies

get_length : (p : Parts kinds.Get) → length ((fields kinds.Get).frame p) ≡ 26
unfolding fields key i64 u64 u16
get_length p = simp length-append (omega (arith, exec_length p.0))

note_length : (p : Parts kinds.Note) → length ((fields kinds.Note).frame p) ≡ 51 + length ((optional wid).frame p.1.1.1.1.1)
unfolding fields key i64 u64 u16 flag u8
note_length p = simp length-append (omega (arith, version_length p.0, wid_length p.1.1.0))

puts_length : (p : Parts kinds.Puts) → length ((fields kinds.Puts).frame p) ≡ 16 + length (writes.frame p.1)
unfolding fields
puts_length p = simp length-append (omega (arith, exec_length p.0))

prepare_length : (p : Parts kinds.Prepare) → length ((fields kinds.Prepare).frame p) ≡ 16 + length (content.frame p.1)
unfolding fields
prepare_length p = simp length-append (omega (arith, exec_length p.0))

vote_length : (p : Parts kinds.Vote) → length ((fields kinds.Vote).frame p) ≡ 17
unfolding fields vote u8
vote_length p = simp length-append (omega (arith, exec_length p.0))

finalize_length : (p : Parts kinds.Finalize) → length ((fields kinds.Finalize).frame p) ≡ 20 + length (chosen.frame p.1.1)
unfolding fields view u32
finalize_length p = simp length-append (omega (arith, exec_length p.0))

accepted_length : (p : Parts kinds.Accepted) → length ((fields kinds.Accepted).frame p) ≡ 20
unfolding fields view u32
accepted_length p = simp length-append (omega (arith, exec_length p.0))

decide_length : (p : Parts kinds.Decide) → length ((fields kinds.Decide).frame p) ≡ 16 + length (chosen.frame p.1)
unfolding fields
decide_length p = simp length-append (omega (arith, exec_length p.0))

ask_length : (p : Parts kinds.Ask) → length ((fields kinds.Ask).frame p) ≡ 20
unfolding fields view u32
ask_length p = simp length-append (omega (arith, exec_length p.0))

told_length : (p : Parts kinds.Told)
    → length ((fields kinds.Told).frame p) ≡ 22 + length ((optional accept).frame p.1.1.1.0) + length (chosen.frame p.1.1.1.1.1)
unfolding fields view u32 told_vote decided u8
told_length p = simp length-append (omega (arith, exec_length p.0))

fence_length : (p : Parts kinds.Fence) → length ((fields kinds.Fence).frame p) ≡ 12
unfolding fields
fence_length p = version_length p

fenced_length : (p : Parts kinds.Fenced)
    → length ((fields kinds.Fenced).frame p) ≡ 12 + length (base.frame p.1.0) + length (kept.frame p.1.1.0) + length (kept.frame p.1.1.1)
unfolding fields
fenced_length p = simp length-append (omega (arith, version_length p.0))

drop_length : (p : Parts kinds.Drop) → length ((fields kinds.Drop).frame p) ≡ 12 + length (base.frame p.1)
unfolding fields
drop_length p = simp length-append (omega (arith, version_length p.0))

too_old_length : (p : Parts kinds.TooOld) → length ((fields kinds.TooOld).frame p) ≡ 24
unfolding fields
too_old_length p = simp length-append (omega (arith, version_length p.0, version_length p.1))

abbrev pub body_size : Body → ℕ
body_size (bodies.Get x k) = 26
body_size (bodies.Note v k d value sure old) = 51 + length ((optional wid).frame old)
body_size (bodies.Puts x ws) = 16 + length (writes.frame ws)
body_size (bodies.Prepare x c) = 16 + length (content.frame c)
body_size (bodies.Vote x v) = 17
body_size (bodies.Finalize x n b c) = 20 + length (chosen.frame c)
body_size (bodies.Accepted x n) = 20
body_size (bodies.Decide x b c) = 16 + length (chosen.frame c)
body_size (bodies.Ask x n) = 20
body_size (bodies.Told x n v a d c) = 22 + length ((optional accept).frame a) + length (chosen.frame c)
body_size (bodies.Fence w) = 12
body_size (bodies.Fenced w b c v) = 12 + length (base.frame b) + length (kept.frame c) + length (kept.frame v)
body_size (bodies.Drop w b) = 12 + length (base.frame b)
body_size (bodies.TooOld v w) = 24

pub body_length : (b : Body) → length ((fields (parts b).0).frame (parts b).1) ≡ body_size b
body_length (bodies.Get x k) = get_length (x, k)
body_length (bodies.Note v k d value sure old) = note_length (v, (k, (d, (value, (sure, old)))))
body_length (bodies.Puts x ws) = puts_length (x, ws)
body_length (bodies.Prepare x c) = prepare_length (x, c)
body_length (bodies.Vote x v) = vote_length (x, v)
body_length (bodies.Finalize x n b c) = finalize_length (x, (n, c))
body_length (bodies.Accepted x n) = accepted_length (x, n)
body_length (bodies.Decide x b c) = decide_length (x, c)
body_length (bodies.Ask x n) = ask_length (x, n)
body_length (bodies.Told x n v a d c) = told_length (x, (n, (v, (a, (d, c)))))
body_length (bodies.Fence w) = fence_length w
body_length (bodies.Fenced w b c v) = fenced_length (w, (b, (c, v)))
body_length (bodies.Drop w b) = drop_length (w, b)
body_length (bodies.TooOld v w) = too_old_length (v, w)

-- ---- the whole

head_length : (h : Head) → length (head.frame h) ≡ 6
unfolding head wire_version kind node node_kind u8
head_length h = refl

pub frame_length : (m : Envelope) → length (frame m) ≡ 6 + length ((fields (parts m.body).0).frame (parts m.body).1)
unfolding envelope
frame_length m =
    let h : Head = record { kind = (parts m.body).0; from = m.from; to = m.to } in
    omega (arith, head_length h, length-append (head.frame h) ((fields (parts m.body).0).frame (parts m.body).1))

-- What stands in the bases that were sent, and what is in conflict with it.
use Rattle.std.proofs.Common.{◌≡◌, ℕ, inl, inr, refl, ap, sym, ◌∙◌, subst, true, false, Bool, List, [], ◌∷◌, Option, arith, ◌≤◌}
use Rattle.std.specs.Prelude.{suc, ◌&&◌, ◌||◌}
use Rattle.std.specs.List.{list_any}
use Rattle.protocol.specs.Words.{Version, Exec, Key, Envelope, BaseEntry, Read, Write, Content, ToCommit, Prepare, Decide, Drops, no_version, before, same_key, wid_before, key_before}
use Rattle.protocol.specs.Lists.{IsIn}
use Rattle.protocol.specs.Replica.Taken.{Handled, dropped, base}
use Rattle.protocol.specs.Replica.Votes.{conflicts, conflicts_with_base, misses, writes_key}
use Rattle.protocol.specs.Warden.Base.{entries_of}
use Rattle.protocol.specs.World.State.{World}
use Rattle.protocol.specs.World.Decided.{UpTo, WasSent, IsRising}
use Rattle.protocol.proofs.TestLemmas.{true_false, and_left, and_right}
use Rattle.protocol.proofs.NamesLemmas.{key_is, key_itself, key_irreflexive, before_then, then_before, before_up_to, before_self as self}
use Rattle.law_steps.proofs.TakenLemmas.{dropped_taken}
use Rattle.law_steps.proofs.VotesLemmas.{any_true, any_in}

-- an entry of the base for the key of e, whose write name is not below e's
abbrev pub HasEntry : List BaseEntry → BaseEntry → Type 0
HasEntry bs e = (d : BaseEntry) × IsIn d bs × (d.key ≡ e.key) × (wid_before d.wid e.wid ≡ false)

-- a write at or below v of an execution that is decided Commit
pub record Written (w : World) (v : Version) (d : BaseEntry) : Type 0 where
  pub exec : Exec
  pub content : Content
  pub decision : (o : Option Content) × WasSent w (Decide exec ToCommit o)
  pub prepare : WasSent w (Prepare exec content)
  pub upto : UpTo exec.ver v
  pub entry : IsIn d (entries_of exec 1 content.writes)

-- what the bases of the Drops hold: each committed write at or below the dropped version, or a greater one, and no other
pub record Bases (w : World) : Type 0 where
  pub holds : (v : Version) (bs : List BaseEntry) → WasSent w (Drops v bs) → (y : Exec) (l : Content) (o : Option Content) → WasSent w (Decide y ToCommit o) →
      WasSent w (Prepare y l) → UpTo y.ver v → (e : BaseEntry) → IsIn e (entries_of y 1 l.writes) → HasEntry bs e
  pub written : (v : Version) (bs : List BaseEntry) → WasSent w (Drops v bs) → (d : BaseEntry) → IsIn d bs → Written w v d

pub entry_write : (y : Exec) (i : ℕ) (ws : List Write) (d : BaseEntry) → IsIn d (entries_of y i ws) →
    (d.wid.ver ≡ y.ver) × ((w : Write) × IsIn w ws × (d.key ≡ w.key))
entry_write y i [] d j = absurd j
entry_write y i (w ∷ ws) d (inl e) = (ap (λ (z : BaseEntry). z.wid.ver) e, (w, inl refl, ap (λ (z : BaseEntry). z.key) e))
entry_write y i (w ∷ ws) d (inr j) = let k = entry_write y (suc i) ws d j in (k.0, (k.1.0, inr k.1.1, k.1.2))

pub write_entry : (y : Exec) (i : ℕ) (ws : List Write) (w : Write) → IsIn w ws →
    (d : BaseEntry) × IsIn d (entries_of y i ws) × (d.key ≡ w.key) × (d.wid.ver ≡ y.ver)
write_entry y i [] w j = absurd j
write_entry y i (v ∷ ws) w (inl e) =
    (record { key = v.key; wid = record { ver = y.ver; eid = y.eid; seq = i }; value = v.value }, inl refl, ap (λ (z : Write). z.key) (sym e), refl)
write_entry y i (v ∷ ws) w (inr j) = let k = write_entry y (suc i) ws w j in (k.0, inr k.1, k.2, k.3)

or_left : (a b : Bool) → (a || b) ≡ false → a ≡ false
or_left true b e = cc
or_left false b e = refl

pub or_left_in : (a b : Bool) → a ≡ true → (a || b) ≡ true
or_left_in a b e = rw e refl

pub both : (a b : Bool) → a ≡ true → b ≡ true → (a && b) ≡ true
both a b e f = rw (e, f) refl

wid_up : (d e : BaseEntry) → wid_before d.wid e.wid ≡ false → UpTo e.wid.ver d.wid.ver
unfolding wid_before
wid_up d e q = or_left _ _ q

only_key : (k : Key) (d : BaseEntry) → writes_key k (record { key = d.key; value = d.value } ∷ []) ≡ true → k ≡ d.key
only_key k d e = key_is k d.key (or_false (same_key k d.key) e)
  where
    or_false : (a : Bool) → (a || false) ≡ true → a ≡ true
    or_false true e = refl
    or_false false e = e

-- who is in conflict with a committed execution at or below a dropped version, and stands above it, is in conflict with the base
pub base_conflict : (x : Exec) (k : Content) (y : Exec) (l : Content) (v : Version) (bs : List BaseEntry) → UpTo y.ver v → before v x.ver ≡ true →
    conflicts x.ver k y.ver l ≡ true
    → ((e : BaseEntry) → IsIn e (entries_of y 1 l.writes) → HasEntry bs e) → ((d : BaseEntry) → IsIn d bs → UpTo d.wid.ver v) → list_any (conflicts_with_base x.ver k) bs ≡ true
unfolding conflicts conflicts_with_base
base_conflict x k y l v bs up above c holds low = go (misses x.ver k y.ver l.writes) refl c
  where
    hit : misses x.ver k y.ver l.writes ≡ true → list_any (conflicts_with_base x.ver k) bs ≡ true
    hit q =
        let r = any_true (λ (r : Read). before r.wid.ver y.ver && writes_key r.key l.writes) k.reads (and_right (before y.ver x.ver) _ q) in
        let t = any_true (λ (w : Write). same_key r.0.key w.key) l.writes (and_right (before r.0.wid.ver y.ver) _ r.2) in
        let e = write_entry y 1 l.writes t.0 t.1 in
        let d = holds e.0 e.1 in
        let same : r.0.key ≡ d.0.key = key_is r.0.key t.0.key t.2 ∙ sym e.2 ∙ sym d.2 in
        let higher : UpTo y.ver d.0.wid.ver = subst (λ (z : Version). UpTo z d.0.wid.ver) e.3 (wid_up d.0 e.0 d.3) in
        any_in (conflicts_with_base x.ver k) bs d.0 d.1
        (both (before d.0.wid.ver x.ver) _ (then_before d.0.wid.ver v x.ver (low d.0 d.1) above)
        (any_in (λ (r : Read). before r.wid.ver d.0.wid.ver && writes_key r.key (record { key = d.0.key; value = d.0.value } ∷ [])) k.reads r.0 r.1
        (both (before r.0.wid.ver d.0.wid.ver) _ (before_then r.0.wid.ver y.ver d.0.wid.ver (and_left (before r.0.wid.ver y.ver) _ r.2) higher)
        (or_left_in (same_key r.0.key d.0.key) false (subst (λ (z : Key). same_key r.0.key z ≡ true) same (key_itself r.0.key))))))

    go : (t : Bool) → misses x.ver k y.ver l.writes ≡ t → (t || misses y.ver l x.ver k.writes) ≡ true → list_any (conflicts_with_base x.ver k) bs ≡ true
    go true q z = hit q
    go false q z =
        absurd (true_false (sym (then_before y.ver v y.ver up (before_then v x.ver y.ver above (up_of (and_left (before x.ver y.ver) _ z)))) ∙ self y.ver))
      where
        up_of : before x.ver y.ver ≡ true → UpTo x.ver y.ver
        up_of e = before_up_to x.ver y.ver e

-- a conflict with an entry is one with the execution that wrote it
pub entry_conflict : (x : Exec) (k : Content) (y : Exec) (l : Content) (d : BaseEntry) → conflicts_with_base x.ver k d ≡ true →
    IsIn d (entries_of y 1 l.writes) → conflicts x.ver k y.ver l ≡ true
unfolding conflicts conflicts_with_base
entry_conflict x k y l d c i =
    let e = entry_write y 1 l.writes d i in
    let r = any_true (λ (r : Read). before r.wid.ver d.wid.ver && writes_key r.key (record { key = d.key; value = d.value } ∷ [])) k.reads (and_right (before d.wid.ver x.ver) _ c) in
    let same : r.0.key ≡ e.1.0.key = only_key r.0.key d (and_right (before r.0.wid.ver d.wid.ver) _ r.2) ∙ e.1.2 in
    or_left_in (misses x.ver k y.ver l.writes) _
    (both (before y.ver x.ver) _ (subst (λ (z : Version). before z x.ver ≡ true) e.0 (and_left (before d.wid.ver x.ver) _ c))
    (any_in (λ (r : Read). before r.wid.ver y.ver && writes_key r.key l.writes) k.reads r.0 r.1
    (both (before r.0.wid.ver y.ver) _ (subst (λ (z : Version). before r.0.wid.ver z ≡ true) e.0 (and_left (before r.0.wid.ver d.wid.ver) _ r.2))
    (any_in (λ (w : Write). same_key r.0.key w.key) l.writes e.1.0 e.1.1 (subst (λ (z : Key). same_key r.0.key z ≡ true) same (key_itself r.0.key))))))

-- a list whose envelopes are in the mail: the Drop of its dropped version was sent
pub dropped_sent : (w : World) (h : Handled) → ((m : Envelope) → IsIn m h → IsIn m w.mail) → (v : Version) → before no_version v ≡ true → UpTo v (dropped h) →
    WasSent w (Drops (dropped h) (base h))
dropped_sent w h mail v a u = let d = dropped_taken h (before_then no_version v (dropped h) a u) in record { envelope = d.0; there = mail d.0 d.1; body = d.2 }

-- at such a list, who is in conflict with a committed execution that is dropped is in conflict with the base
pub dropped_conflict : (w : World) → Bases w → (h : Handled) → ((m : Envelope) → IsIn m h → IsIn m w.mail) → (x : Exec) (k : Content) →
    before (dropped h) x.ver ≡ true → (y : Exec) (l : Content) (o : Option Content) → WasSent w (Decide y ToCommit o) → WasSent w (Prepare y l)
    → before no_version y.ver ≡ true → UpTo y.ver (dropped h) → conflicts x.ver k y.ver l ≡ true → list_any (conflicts_with_base x.ver k) (base h) ≡ true
dropped_conflict w t h mail x k above y l o d p a u c =
    let s = dropped_sent w h mail y.ver a u in
    base_conflict x k y l (dropped h) (base h) u above c (λ e i. t.holds (dropped h) (base h) s y l o d p u e i)
    (λ e i. let z = t.written (dropped h) (base h) s e i in subst (λ (v : Version). UpTo v (dropped h)) (sym (entry_write z.exec 1 z.content.writes e z.entry).0) z.upto)

-- the names of an execution's writes
pub entry_wid : (x : Exec) (i : ℕ) (ws : List Write) (d : BaseEntry) → IsIn d (entries_of x i ws) → (d.wid.ver ≡ x.ver) × (d.wid.eid ≡ x.eid) × (i ≤ d.wid.seq)
entry_wid x i [] d j = absurd j
entry_wid x i (w ∷ ws) d (inl e) =
    (ap (λ (z : BaseEntry). z.wid.ver) e, ap (λ (z : BaseEntry). z.wid.eid) e, let f = ap (λ (z : BaseEntry). z.wid.seq) e in omega (arith, f))
entry_wid x i (w ∷ ws) d (inr j) = let k = entry_wid x (suc i) ws d j in (k.0, k.1, let l = k.2 in omega (arith, l))

pub rising_one : (bs : List BaseEntry) → IsRising bs → (d e : BaseEntry) → IsIn d bs → IsIn e bs → d.key ≡ e.key → d ≡ e
rising_one [] r d e i j f = absurd i
rising_one (b ∷ bs) r d e (inl x) (inl y) f = x ∙ sym y
rising_one (b ∷ bs) r d e (inl x) (inr j) f =
    absurd (true_false (sym (subst (λ (y : Key). key_before y e.key ≡ true) (ap (λ (y : BaseEntry). y.key) (sym x) ∙ f) (r.0 e j)) ∙ key_irreflexive e.key))
rising_one (b ∷ bs) r d e (inr i) (inl y) f =
    absurd (true_false (sym (subst (λ (y : Key). key_before y d.key ≡ true) (ap (λ (y : BaseEntry). y.key) (sym y) ∙ sym f) (r.0 d i)) ∙ key_irreflexive d.key))
rising_one (b ∷ bs) r d e (inr i) (inr j) f = rising_one bs r.1 d e i j f

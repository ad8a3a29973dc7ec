-- What a write that a replica holds is.
use Rattle.std.specs.Prelude.{length, ◌||◌, ◌==◌, nat_lt, nat_le, not, suc, map, filter, filter_map, ◌&&◌}
use Rattle.std.specs.List.{list_any, cons_option}
use Rattle.std.specs.Bool.{then_some}
use Rattle.std.proofs.Common.{◌≡◌, ℕ, ◌⊎◌, inl, inr, refl, ap, sym, ◌∙◌, subst, true, false, Bool, cond, List, [], ◌∷◌, Option, Some, None, arith}
use Rattle.std.specs.Option.{option_or}
use Rattle.protocol.specs.Words.{Puts, same_version, Exec, Version, Wid, Key, Envelope, BaseEntry, Body, Kept, Write, no_version, before, same_key, wid_before}
use Rattle.protocol.specs.Replica.Held.{Put, put_after, larger, last_put, abandons, kept_put, counting_put, first_held, last_write, best_below, held, latest}
use Rattle.protocol.specs.Lists.{IsIn}
use Rattle.protocol.specs.Replica.Taken.{Handled, dropped, base}
use Rattle.protocol.specs.Replica.Acceptor.{commits}
use Rattle.protocol.specs.declared.First2.{First2}
use Rattle.protocol.specs.declared.Held.{Held}
use Rattle.protocol.specs.Warden.Base.{entries_of}
use Rattle.protocol.proofs.TestLemmas.{true_false, and_left}
use Rattle.protocol.proofs.NamesLemmas.{key_is, key_itself, wid_itself, wid_within}
use Rattle.protocol.proofs.ListsLemmas.{IsIn-cases, IsIn-map}
use Rattle.law_steps.proofs.TakenLemmas.{IsIn-filtered}
use Rattle.law_safety.proofs.BaseEntries.{entry_wid}

last_none : (x : Exec) (s : Bool) (i : ℕ) (k : Key) (ws : List Write) → last_write x s i k ws ≡ None → (e : BaseEntry) → IsIn e (entries_of x i ws) →
    e.key ≡ k → ⊥
last_none x s i k [] q e j f = j
last_none x s i k (w ∷ ws) q e j f = go (λ z m. last_none x s (suc i) k ws z e m f) (last_write x s (suc i) k ws) refl (same_key k w.key) refl q j
  where
    go : (last_write x s (suc i) k ws ≡ None → IsIn e (entries_of x (suc i) ws) → ⊥) → (o : Option Held) → last_write x s (suc i) k ws ≡ o → (t : Bool) →
        same_key k w.key ≡ t
        → option_or o (then_some t (record { wid = record { ver = x.ver; eid = x.eid; seq = i }; value = w.value; sure = s })) ≡ None → IsIn e (entries_of x i (w ∷ ws)) → ⊥
    go ih (Some b) g t h z m = cc
    go ih None g true h z m = cc
    go ih None g false h z (inl m) = true_false (sym (subst (λ (y : Key). same_key k y ≡ true) (sym f ∙ ap (λ (y : BaseEntry). y.key) m) (key_itself k)) ∙ h)
    go ih None g false h z (inr m) = ih g m

pub record LastIs (x : Exec) (s : Bool) (i : ℕ) (k : Key) (ws : List Write) (a : Held) : Type 0 where
  pub sure : a.sure ≡ s
  pub entry : IsIn (record { key = k; wid = a.wid; value = a.value }) (entries_of x i ws)
  pub last : (e : BaseEntry) → IsIn e (entries_of x i ws) → e.key ≡ k → wid_before a.wid e.wid ≡ false

pub last_is : (x : Exec) (s : Bool) (i : ℕ) (k : Key) (ws : List Write) (a : Held) → last_write x s i k ws ≡ Some a → LastIs x s i k ws a
last_is x s i k [] a q = cc
last_is x s i k (w ∷ ws) a q = go (λ z. last_is x s (suc i) k ws a z) (last_write x s (suc i) k ws) refl (same_key k w.key) refl q
  where
    here : Held
    here = record { wid = record { ver = x.ver; eid = x.eid; seq = i }; value = w.value; sure = s }

    head : same_key k w.key ≡ true → last_write x s (suc i) k ws ≡ None → LastIs x s i k (w ∷ ws) (record { wid = record { ver = x.ver; eid = x.eid; seq = i }; value = w.value; sure = s })
    head t n = record {
      sure = refl;
      entry = inl (ap (λ (y : Key). record { key = y; wid = record { ver = x.ver; eid = x.eid; seq = i }; value = w.value }) (key_is k w.key t));
      last = λ e j f. elim j [ inl z ↦ subst (λ (y : Wid). wid_before (record { ver = x.ver; eid = x.eid; seq = i }) y ≡ false) (ap (λ (y : BaseEntry). y.wid) (sym z)) (wid_itself (record { ver = x.ver; eid = x.eid; seq = i })) | inr m ↦ absurd (last_none x s (suc i) k ws n e m f) ];
    }

    go : (last_write x s (suc i) k ws ≡ Some a → LastIs x s (suc i) k ws a) → (o : Option Held) → last_write x s (suc i) k ws ≡ o → (t : Bool) →
        same_key k w.key ≡ t
        → option_or o (then_some t (record { wid = record { ver = x.ver; eid = x.eid; seq = i }; value = w.value; sure = s })) ≡ Some a → LastIs x s i k (w ∷ ws) a
    go ih (Some b) g t h z = let r = ih (g ∙ z) in let n = entry_wid x (suc i) ws _ r.entry in record {
      sure = r.sure;
      entry = inr r.entry;
      last = λ e j f. elim j [
        | inl m ↦ let l = n.2 in let y = ap (λ (y : BaseEntry). y.wid.seq) m in wid_within a.wid e.wid (n.0 ∙ sym (ap (λ (y : BaseEntry). y.wid.ver) m)) (n.1 ∙ sym (ap (λ (y : BaseEntry). y.wid.eid) m)) (omega (arith, l, y))
        | inr m ↦ r.last e m f
      ];
    }
    go ih None g true h z = let y : record { wid = record { ver = x.ver; eid = x.eid; seq = i }; value = w.value; sure = s } ≡ a = cc in subst (λ (b : Held). LastIs x s i k (w ∷ ws) b) y (head h g)
    go ih None g false h z = cc

-- the write held that is latest
best_is : (v : Version) (b : Held) (xs : List Held) → (best_below v b xs ≡ b) ⊎ (IsIn (best_below v b xs) xs × (before (best_below v b xs).wid.ver v ≡ true))
best_is v b [] = inl refl
best_is v b (a ∷ more) = go (λ c. best_is v c more) (before a.wid.ver v && wid_before b.wid a.wid) refl
  where
    go : ((c : Held) → (best_below v c more ≡ c) ⊎ (IsIn (best_below v c more) more × (before (best_below v c more).wid.ver v ≡ true))) → (t : Bool) →
        (before a.wid.ver v && wid_before b.wid a.wid) ≡ t
        → (best_below v (cond t a b) more ≡ b) ⊎ (IsIn (best_below v (cond t a b) more) (a ∷ more) × (before (best_below v (cond t a b) more).wid.ver v ≡ true))
    go ih true q = elim (ih a) [ inl z ↦ inr (inl z, subst (λ (y : Held). before y.wid.ver v ≡ true) (sym z) (and_left (before a.wid.ver v) _ q)) | inr z ↦ inr (inr z.0, z.1) ]
    go ih false q = elim (ih b) [ inl z ↦ inl z | inr z ↦ inr (inr z.0, z.1) ]

pub first_is : (fs : List First2) (k : Key) → (first_held fs k).wid ≡ record { ver = no_version; eid = 0; seq = 0 }
first_is [] k = refl
first_is (f ∷ fs) k = go (same_key k f.key) (first_is fs k)
  where
    go : (t : Bool) → (first_held fs k).wid ≡ record { ver = no_version; eid = 0; seq = 0 } → (cond t (record { wid = record { ver = no_version; eid = 0; seq = 0 }; value = f.value; sure = true }) (first_held fs k)).wid ≡ record { ver = no_version; eid = 0; seq = 0 }
    go true ih = refl
    go false ih = ih

IsIn-filter_map : {A B : Type 0} (f : A → Option B) (b : B) (xs : List A) → IsIn b (filter_map f xs) → (a : A) × IsIn a xs × (f a ≡ Some b)
IsIn-filter_map f b [] i = absurd i
IsIn-filter_map {A} {B} f b (x ∷ xs) i = go (λ j. IsIn-filter_map f b xs j) (f x) refl i
  where
    go : (IsIn b (filter_map f xs) → (a : A) × IsIn a xs × (f a ≡ Some b)) → (o : Option B) → f x ≡ o → IsIn b (cons_option o (filter_map f xs)) →
        (a : A) × IsIn a (x ∷ xs) × (f a ≡ Some b)
    go ih None q i = let k = ih i in (k.0, inr k.1, k.2)
    go ih (Some c) q (inl z) = (x, inl refl, q ∙ ap Some (sym z))
    go ih (Some c) q (inr i) = let k = ih i in (k.0, inr k.1, k.2)

-- what a write that is held is
pub data HeldCase (firsts : List First2) (h : Handled) (k : Key) (a : Held) : Type 0 where
  Is_first : a ≡ first_held firsts k → HeldCase firsts h k a
  Of_base : (b : BaseEntry) → IsIn b (base h) → k ≡ b.key → a ≡ record { wid = b.wid; value = b.value; sure = true } → HeldCase firsts h k a
  Of_commit : (c : Kept) → IsIn c (commits h) → last_write c.exec true 1 k c.content.writes ≡ Some a → HeldCase firsts h k a
  Of_put : (v : Version) (q : Put) → kept_put h v ≡ Some q → last_write q.exec false 1 k q.writes ≡ Some a → HeldCase firsts h k a

counted_put : (h : Handled) (k : Key) (v : Version) (a : Held) (o : Option Put) → last_put k (counting_put h v o) ≡ Some a →
    (q : Put) × (o ≡ Some q) × (last_write q.exec false 1 k q.writes ≡ Some a)
counted_put h k v a None e = cc
counted_put h k v a (Some p) e = go (not (list_any (λ x. same_version v x.ver && nat_le p.exec.eid x.eid) (abandons h))) e
  where
    go : (t : Bool) → last_put k (then_some t p) ≡ Some a → (q : Put) × (Some p ≡ Some q) × (last_write q.exec false 1 k q.writes ≡ Some a)
    go true e = (p, refl, e)
    go false e = cc

held_is : (firsts : List First2) (h : Handled) (k : Key) (a : Held) → IsIn a (held firsts h k) → HeldCase firsts h k a
unfolding held
held_is firsts h k a (inl e) = Is_first e
held_is firsts h k a (inr i) = elim (IsIn-cases a (map (λ (b : BaseEntry). record { wid = b.wid; value = b.value; sure = true }) (filter (λ (b : BaseEntry). same_key k b.key) (base h))) _ i) [
  | inl j ↦ let m = IsIn-map (λ (b : BaseEntry). record { wid = b.wid; value = b.value; sure = true }) a (filter (λ (b : BaseEntry). same_key k b.key) (base h)) j in
      let n = IsIn-filtered (λ (b : BaseEntry). same_key k b.key) (base h) m.0 m.1 in Of_base m.0 n.0 (key_is k m.0.key n.1) m.2
  | inr j ↦ elim (IsIn-cases a (filter_map (λ (c : Kept). last_write c.exec true 1 k c.content.writes) (filter (λ (c : Kept). before (dropped h) c.exec.ver) (commits h))) _ j) [
    | inl g ↦ let m = IsIn-filter_map (λ (c : Kept). last_write c.exec true 1 k c.content.writes) a (filter (λ (c : Kept). before (dropped h) c.exec.ver) (commits h)) g in
        Of_commit m.0 (IsIn-filtered (λ (c : Kept). before (dropped h) c.exec.ver) (commits h) m.0 m.1).0 m.2
    | inr g ↦ let m = IsIn-filter_map (λ v. last_put k (counting_put h v (kept_put h v))) a _ g in
        let c = counted_put h k m.0 a (kept_put h m.0) m.2 in Of_put m.0 c.0 c.1 c.2
  ]
]

pub latest_is : (firsts : List First2) (h : Handled) (k : Key) (v : Version) → before no_version v ≡ true →
    (before (latest firsts h k v).wid.ver v ≡ true) × HeldCase firsts h k (latest firsts h k v)
unfolding latest
latest_is firsts h k v n = elim (best_is v (first_held firsts k) (held firsts h k)) [
  | inl z ↦ (subst (λ (y : Held). before y.wid.ver v ≡ true) (sym z) (subst (λ (y : Wid). before y.ver v ≡ true) (sym (first_is firsts k)) n), Is_first z)
  | inr z ↦ (z.1, held_is firsts h k (best_below v (first_held firsts k) (held firsts h k)) z.0)
]

-- a Puts that is kept was taken
pub kept_taken : (h : Handled) (v : Version) (q : Put) → kept_put h v ≡ Some q → (m : Envelope) × IsIn m h × (m.body ≡ Puts q.exec q.writes)
kept_taken [] v q e = cc
kept_taken (m ∷ h) v q e = go (λ z. kept_taken h v q z) m.body refl (kept_put h v) refl e
  where
    some_is : (a b : Put) → Some a ≡ Some b → a ≡ b
    some_is a b e = cc

    puts_is : (x : Exec) (ws : List Write) (a : Put) → a ≡ record { exec = x; writes = ws } → Puts x ws ≡ Puts a.exec a.writes
    puts_is x ws a e = rw e refl

    here : (x : Exec) (ws : List Write) → m.body ≡ Puts x ws → record { exec = x; writes = ws } ≡ q →
        (n : Envelope) × IsIn n (m ∷ h) × (n.body ≡ Puts q.exec q.writes)
    here x ws b z = (m, inl refl, b ∙ puts_is x ws q (sym z))

    older : (kept_put h v ≡ Some q → (n : Envelope) × IsIn n h × (n.body ≡ Puts q.exec q.writes)) → kept_put h v ≡ Some q →
        (n : Envelope) × IsIn n (m ∷ h) × (n.body ≡ Puts q.exec q.writes)
    older ih z = let k = ih z in (k.0, inr k.1, k.2)

    choose : (kept_put h v ≡ Some q → (n : Envelope) × IsIn n h × (n.body ≡ Puts q.exec q.writes)) → (x : Exec) (ws : List Write) → m.body ≡ Puts x ws →
        (o : Option Put) → kept_put h v ≡ o → larger o (record { exec = x; writes = ws }) ≡ Some q →
        (n : Envelope) × IsIn n (m ∷ h) × (n.body ≡ Puts q.exec q.writes)
    choose ih x ws b None f z = here x ws b (some_is (record { exec = x; writes = ws }) q z)
    choose ih x ws b (Some p) f z = by (nat_lt p.exec.eid x.eid || (p.exec.eid == x.eid && nat_lt (length p.writes) (length ws))) z
      where
        by : (t : Bool) → Some (cond t (record { exec = x; writes = ws }) p) ≡ Some q → (n : Envelope) × IsIn n (m ∷ h) × (n.body ≡ Puts q.exec q.writes)
        by true z = here x ws b (some_is (record { exec = x; writes = ws }) q z)
        by false z = older ih (f ∙ z)

    go : (kept_put h v ≡ Some q → (n : Envelope) × IsIn n h × (n.body ≡ Puts q.exec q.writes)) → (b : Body) → m.body ≡ b → (o : Option Put) →
        kept_put h v ≡ o → put_after v o b ≡ Some q → (n : Envelope) × IsIn n (m ∷ h) × (n.body ≡ Puts q.exec q.writes)
    go ih (Puts x ws) b o f z = by (same_version v x.ver) z
      where
        by : (t : Bool) → cond t (larger o (record { exec = x; writes = ws })) o ≡ Some q → (n : Envelope) × IsIn n (m ∷ h) × (n.body ≡ Puts q.exec q.writes)
        by true z = choose ih x ws b o f z
        by false z = older ih (f ∙ z)
    go ih _ b o f z = older ih (f ∙ z)

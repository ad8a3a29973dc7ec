-- What stays the same from one envelope to the next.
use Rattle.std.proofs.Common.{◌≡◌, ◌≢◌, ◌⊎◌, inl, inr, ℕ, Bool, true, false, cond, List, [], ◌∷◌, ◌++◌, refl, ap, sym, subst, ◌∙◌, Option, Some, None, arith, ◌&&◌, ◌||◌}
use Rattle.std.specs.Prelude.{not, filter, flat_map}
use Rattle.std.specs.List.{list_any, filter_map}
use Rattle.std.proofs.lemmas.Bool.Decides.{nat_tests}
use Rattle.std.proofs.lemmas.Int.{ints}
use Rattle.morty_base.proofs.Orders.{wid_before_total, same_version_tells}
use Rattle.protocol.specs.Words.{Version, Exec, Key, NodeId, before, same_version, same_key, same_wid, key_before, wid_before, Write, Envelope, Body, Get, same_exec}
use Rattle.protocol.specs.declared.Held.{Held}
use Rattle.protocol.specs.declared.First2.{First2}
use Rattle.protocol.specs.Lists.{IsIn, one_when}
use Rattle.protocol.specs.Replica.Taken.{Handled, dropped, base}
use Rattle.protocol.specs.Replica.Acceptor.{commits}
use Rattle.protocol.specs.Replica.Held.{Put, larger, first_held, last_write, last_put, counting_put, kept_put, put_versions, best_below, held, latest}
use Rattle.protocol.specs.Replica.Readers.{Reader, put_reader, reader_after, readers, same_held, note_for, due}
use Rattle.protocol.specs.Replica.Votes.{writes_key}
use Rattle.mv_index.proofs.PutsTurn.{last_write_none, after_puts, sure_puts}
use Rattle.mv_index.proofs.Growth.{later_none}
use Rattle.mv_index.specs.HeldByExec.{committed_content, has_commit, is_blocked, last_of_content, last_of_put, sure_by, open_by, entries_of, kept_writes}
use Rattle.mv_index.proofs.Best.{AreValues, IsBest, best_is, best_below_append, exec_of}
use Rattle.mv_index.proofs.Values.{sure_values}
use Rattle.mv_index.proofs.OpenValues.{open_values}

-- two lists with the same values below a version have the same best
pub best_same : (v : Version) (b : Held) (f g : Exec → Option Held) (xs ys : List Held) → AreValues f xs → AreValues g ys →
    ((x : Exec) → before x.ver v ≡ true → f x ≡ g x) → best_below v b xs ≡ best_below v b ys
best_same v b f g xs ys k l same = go (best_is v b xs) (best_is v b ys)
  where
    r : Held
    r = best_below v b xs

    s : Held
    s = best_below v b ys

    go : IsBest v b xs (best_below v b xs) → IsBest v b ys (best_below v b ys) → best_below v b xs ≡ best_below v b ys
    go i j = elim i.among [ inl p ↦ first p | inr p ↦ some p ]
      where
        there : (a : Held) → IsIn a xs → before a.wid.ver v ≡ true → IsIn a ys
        there a m c = (l.complete (exec_of a.wid) a (sym (same (exec_of a.wid) c) ∙ k.sound a m)).0

        back : (a : Held) → IsIn a ys → before a.wid.ver v ≡ true → IsIn a xs
        back a m c = (k.complete (exec_of a.wid) a (same (exec_of a.wid) c ∙ l.sound a m)).0

        first : best_below v b xs ≡ b → best_below v b xs ≡ best_below v b ys
        first p = elim j.among [
          | inl q ↦ p ∙ sym q
          | inr q ↦
              let z : wid_before b.wid (best_below v b ys).wid ≡ false =
              subst (λ (a : Held). wid_before a.wid (best_below v b ys).wid ≡ false) p (i.most (best_below v b ys) (back (best_below v b ys) q.0 q.1) q.1) in
              absurd (cc (z, q.2))
        ]

        some : IsIn (best_below v b xs) xs × (before (best_below v b xs).wid.ver v ≡ true) × (wid_before b.wid (best_below v b xs).wid ≡ true) →
            best_below v b xs ≡ best_below v b ys
        some p = elim j.among [
          | inl q ↦
              let z : wid_before b.wid (best_below v b xs).wid ≡ false =
              subst (λ (a : Held). wid_before a.wid (best_below v b xs).wid ≡ false) q (j.most (best_below v b xs) (there (best_below v b xs) p.0 p.1) p.1) in
              absurd (cc (z, p.2))
          | inr q ↦
              let one = i.most (best_below v b ys) (back (best_below v b ys) q.0 q.1) q.1 in
              let two = j.most (best_below v b xs) (there (best_below v b xs) p.0 p.1) p.1 in
              let named : (best_below v b xs).wid ≡ (best_below v b ys).wid = wid_before_total.total (best_below v b xs).wid (best_below v b ys).wid one two in
              let here : f (exec_of (best_below v b xs).wid) ≡ Some (best_below v b ys) =
              subst (λ w. f (exec_of w) ≡ Some (best_below v b ys)) (sym named)
              (same (exec_of (best_below v b ys).wid) q.1 ∙ l.sound (best_below v b ys) q.0) in
              let also : f (exec_of (best_below v b xs).wid) ≡ Some (best_below v b xs) = k.sound (best_below v b xs) p.0 in
              cc
        ]

-- what is seen of a key depends on what is held of that key alone
pub record SameAt (k : Key) (h h' : Handled) : Type 0 where
  pub based : entries_of k (base h') ≡ entries_of k (base h)
  pub sure : (x : Exec) → sure_by h' k x ≡ sure_by h k x
  pub tried : (x : Exec) → open_by h' k x ≡ open_by h k x

abbrev committed_of : Handled → Key → List Held
committed_of h k = filter_map (λ c. last_write c.exec true 1 k c.content.writes) (filter (λ c. before (dropped h) c.exec.ver) (commits h))

abbrev others_of : Handled → Key → List Held
others_of h k = filter_map (λ v. last_put k (counting_put h v (kept_put h v))) (filter
    (λ v. before (dropped h) v && not (list_any (λ c. same_version v c.exec.ver) (filter (λ c. before (dropped h) c.exec.ver) (commits h)))) (put_versions h))

latest_is : (firsts : List First2) (h : Handled) (k : Key) (v : Version) →
    latest firsts h k v ≡ best_below v (best_below v (best_below v (first_held firsts k) (first_held firsts k ∷ entries_of k (base h)))
    (committed_of h k)) (others_of h k)
unfolding latest held
latest_is firsts h k v =
    best_below_append v (first_held firsts k) (first_held firsts k ∷ entries_of k (base h)) (committed_of h k ++ others_of h k)
    ∙ best_below_append v (best_below v (first_held firsts k) (first_held firsts k ∷ entries_of k (base h))) (committed_of h k) (others_of h k)

-- what a reader at a version sees of a key depends on what is held of that key below the version alone
pub record SameBelow (v : Version) (k : Key) (h h' : Handled) : Type 0 where
  pub based : entries_of k (base h') ≡ entries_of k (base h)
  pub sure : (x : Exec) → before x.ver v ≡ true → sure_by h' k x ≡ sure_by h k x
  pub tried : (x : Exec) → before x.ver v ≡ true → open_by h' k x ≡ open_by h k x

pub latest_same_below : (firsts : List First2) (h h' : Handled) (k : Key) (v : Version) → SameBelow v k h h' → latest firsts h' k v ≡ latest firsts h k v
latest_same_below firsts h h' k v s =
    let first = first_held firsts k in
    let base' = best_below v first (first ∷ entries_of k (base h')) in
    latest_is firsts h' k v
    ∙ (best_same v (best_below v base' (committed_of h' k)) (open_by h' k) (open_by h k) (others_of h' k) (others_of h k) (open_values h' k)
    (open_values h k) s.tried
    ∙ (ap (λ b. best_below v b (others_of h k)) (best_same v base' (sure_by h' k) (sure_by h k) (committed_of h' k) (committed_of h k) (sure_values h' k)
    (sure_values h k) s.sure
    ∙ ap (λ es. best_below v (best_below v first (first ∷ es)) (committed_of h k)) s.based)
    ∙ sym (latest_is firsts h k v)))

pub latest_same : (firsts : List First2) (h h' : Handled) (k : Key) (v : Version) → SameAt k h h' → latest firsts h' k v ≡ latest firsts h k v
latest_same firsts h h' k v s = latest_same_below firsts h h' k v (record { based = s.based; sure = λ x b. s.sure x; tried = λ x b. s.tried x })

-- ---- the readers of one envelope earlier

-- a Get changes nothing that is held
pub get_same : (h : Handled) (from to : NodeId) (y : Exec) (l k : Key) → SameAt k h (record { from = from; to = to; body = Get y l } ∷ h)
unfolding sure_by open_by
get_same h from to y l k = record {
  based = refl;
  sure = λ x. ap (λ d. cond (before d x.ver) (last_of_content k x (committed_content h x)) None) (later_none (dropped h));
  tried = λ x. ap (λ d. cond (before d x.ver && not (has_commit h x.ver)) (last_of_put k x (is_blocked h x.ver) (kept_put h x.ver)) None) (later_none
      (dropped h));
}

same_held_self : (a : Held) → same_held a a ≡ true
unfolding same_wid
same_held_self a = grind (arith, nat_tests, ints)

one_when_not : (s t : Bool) (e : Envelope) → t ≡ true → one_when (s && not t) e ≡ []
one_when_not true true e f = refl
one_when_not true false e f = absurd cc
one_when_not false t e f = refl

-- who reads now is due nothing
pub no_note : (firsts : List First2) (h h' : Handled) (r : ℕ) (p : Reader) → latest firsts h' p.key p.ver ≡ latest firsts h p.key p.ver →
    note_for firsts h h' r p ≡ []
unfolding note_for
no_note firsts h h' r p e = one_when_not (before (dropped h') p.ver) _ _ (ap (same_held (latest firsts h p.key p.ver)) e
    ∙ same_held_self (latest firsts h p.key p.ver))

below_none : (s t : Bool) (e : Envelope) → s ≡ false → one_when (s && t) e ≡ []
below_none true t e f = absurd cc
below_none false t e f = refl

-- nor is who reads at a dropped version
pub no_note_below : (firsts : List First2) (h h' : Handled) (r : ℕ) (p : Reader) → before (dropped h') p.ver ≡ false → note_for firsts h h' r p ≡ []
unfolding note_for
no_note_below firsts h h' r p e = below_none (before (dropped h') p.ver) _ _ e

flat_map_filter : {A B : Type 0} (f : A → List B) (p : A → Bool) (xs : List A) → ((a : A) → p a ≡ false → f a ≡ []) → flat_map f (filter p xs) ≡ flat_map f xs
flat_map_filter f p [] none = refl
flat_map_filter {A} {B} f p (x ∷ xs) none = go (p x) refl (flat_map_filter f p xs none)
  where
    go : (t : Bool) → p x ≡ t → flat_map f (filter p xs) ≡ flat_map f xs → flat_map f (cond t (x ∷ filter p xs) (filter p xs)) ≡ f x ++ flat_map f xs
    go true e more = ap (λ l. f x ++ l) more
    go false e more = more ∙ ap (λ l. l ++ flat_map f xs) (sym (none x e))

flat_map_put : {B : Type 0} (f : Reader → List B) (p : Reader) (rs : List Reader) → f p ≡ [] → flat_map f (put_reader p rs) ≡ flat_map f rs
flat_map_put f p [] e = ap (λ l. l ++ []) e
flat_map_put {B} f p (s ∷ ss) e = go (key_before p.key s.key || (same_key p.key s.key && before p.ver s.ver)) (same_key p.key s.key
    && same_version p.ver s.ver) (flat_map_put f p ss e)
  where
    go : (t u : Bool) → flat_map f (put_reader p ss) ≡ flat_map f ss → flat_map f (cond t (p ∷ s ∷ ss) (cond u (s ∷ ss) (s ∷ put_reader p ss))) ≡ f s
        ++ flat_map f ss
    go true u more = ap (λ l. l ++ (f s ++ flat_map f ss)) e
    go false true more = refl
    go false false more = ap (λ l. f s ++ l) more

by_body : (firsts : List First2) (r : ℕ) (h : Handled) (from to : NodeId) (b : Body) →
    flat_map (note_for firsts h (record { from = from; to = to; body = b } ∷ h) r) (reader_after (readers h) b)
    ≡ flat_map (note_for firsts h (record { from = from; to = to; body = b } ∷ h) r) (readers h)
by_body firsts r h from to (Get y k) = flat_map_put (note_for firsts h (record { from = from; to = to; body = Get y k } ∷ h) r) (record {
  key = k;
  ver = y.ver;
}) (readers h) (no_note firsts h (record { from = from; to = to; body = Get y k } ∷ h) r (record {
  key = k;
  ver = y.ver;
}) (latest_same firsts h (record { from = from; to = to; body = Get y k } ∷ h) k y.ver (get_same h from to y k k)))
by_body firsts r h from to _ = refl

-- the Notes that are due are those of the readers that there are now
pub due_now : (firsts : List First2) (r : ℕ) (h : Handled) (m : Envelope) →
    flat_map (note_for firsts h (m ∷ h) r) (filter (λ p. before (dropped (m ∷ h)) p.ver) (readers (m ∷ h))) ≡ due firsts r h (m ∷ h)
unfolding due
due_now firsts r h m =
    flat_map_filter (note_for firsts h (m ∷ h) r) (λ p. before (dropped (m ∷ h)) p.ver) (readers (m ∷ h)) (λ p e. no_note_below firsts h (m ∷ h) r p e)
    ∙ by_body firsts r h m.from m.to m.body

-- ---- a Puts

pub none_of_put : (k : Key) (x : Exec) (blocked : ℕ → Bool) (o : Option Put) → writes_key k (kept_writes o) ≡ false → last_of_put k x blocked o ≡ None
none_of_put k x blocked None e = refl
none_of_put k x blocked (Some p) e = go (same_exec x p.exec && not (blocked p.exec.eid))
  where
    go : (t : Bool) → cond t (last_write p.exec false 1 k p.writes) None ≡ None
    go true = last_write_none p.exec false 1 k p.writes e
    go false = refl

larger_writes : (k : Key) (o : Option Put) (p : Put) → writes_key k (kept_writes o) ≡ false → writes_key k p.writes ≡ false →
    writes_key k (kept_writes (larger o p)) ≡ false
larger_writes k None p e f = f
larger_writes k (Some q) p e f = go _
  where
    go : (t : Bool) → writes_key k (kept_writes (Some (cond t p q))) ≡ false
    go true = f
    go false = e

-- what is held of a key that no Puts of the version writes stays the same
pub puts_same : (h : Handled) (from to : NodeId) (y : Exec) (ws : List Write) (k : Key) → writes_key k ws ≡ false →
    writes_key k (kept_writes (kept_put h y.ver)) ≡ false → SameAt k h (after_puts h from to y ws)
unfolding open_by
puts_same h from to y ws k e f = record {
  based = refl;
  sure = λ x. sym (sure_puts h from to y ws k x);
  tried = λ x. ap (λ d. cond (before d x.ver && not (has_commit h x.ver))
      (last_of_put k x (is_blocked h x.ver) (kept_put (after_puts h from to y ws) x.ver)) None) (later_none (dropped h))
      ∙ ap (λ o. cond (before (dropped h) x.ver && not (has_commit h x.ver)) o None) (go x (same_version x.ver y.ver) (same_version_tells x.ver y.ver));
}
  where
    go : (x : Exec) (t : Bool) → ((t ≡ true) × (x.ver ≡ y.ver)) ⊎ ((t ≡ false) × (x.ver ≢ y.ver)) →
        last_of_put k x (is_blocked h x.ver) (cond t (larger (kept_put h x.ver) (record { exec = y; writes = ws })) (kept_put h x.ver))
        ≡ last_of_put k x (is_blocked h x.ver) (kept_put h x.ver)
    go x true (inl q) =
        let g : writes_key k (kept_writes (kept_put h x.ver)) ≡ false = subst (λ v. writes_key k (kept_writes (kept_put h v)) ≡ false) (sym q.1) f in
        none_of_put k x (is_blocked h x.ver) (larger (kept_put h x.ver) (record { exec = y; writes = ws })) (larger_writes k (kept_put h x.ver)
        (record { exec = y; writes = ws }) g e)
        ∙ sym (none_of_put k x (is_blocked h x.ver) (kept_put h x.ver) g)
    go x true (inr q) = absurd (cc (q.0))
    go x false q = refl

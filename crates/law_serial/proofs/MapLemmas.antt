-- What a map holds after the writes of executions.
use Rattle.std.proofs.Common.{◌≡◌, ℕ, ℤ, inl, inr, refl, ap, sym, ◌∙◌, subst, true, false, Bool, List, [], ◌∷◌, ◌++◌, Some, arith}
use Rattle.std.specs.Prelude.{suc, map, ◌||◌, ◌≤◌}
use Rattle.std.proofs.lemmas.Bool.Decides.{nat_tests}
use Rattle.protocol.specs.Words.{Version, Exec, Key, Wid, Write, BaseEntry, same_key, wid_before, before, same_version}
use Rattle.protocol.proofs.ListsLemmas.{IsIn-right}
use Rattle.txn_lang.specs.Keys.{Entry, entry, found, held, first_of, after_writes}
use Rattle.protocol.specs.Lists.{IsIn, IsRisingBy}
use Rattle.protocol.specs.Replica.Votes.{writes_key}
use Rattle.protocol.specs.Warden.Base.{entries_of}
use Rattle.protocol.specs.declared.First2.{First2}
use Rattle.protocol.specs.Replica.Held.{first_held}
use Rattle.protocol.specs.World.Committed.{CommittedExec}
use Rattle.protocol.proofs.NamesLemmas.{key_is, key_itself}
use Rattle.protocol.proofs.TestLemmas.{true_false}
use Rattle.law_safety.proofs.BaseEntries.{entry_wid}
use Rattle.protocol_plans.specs.SerialOutcome.{first_map, entry_written, map_of}

same_back : (k l : Key) (t : Bool) → same_key k l ≡ t → same_key l k ≡ t
same_back k l true e = subst (λ (z : Key). same_key l z ≡ true) (sym (key_is k l e)) (key_itself l)
same_back k l false e = go (same_key l k) refl
  where
    go : (u : Bool) → same_key l k ≡ u → u ≡ false
    go false f = refl
    go true f = absurd (true_false (sym (subst (λ (z : Key). same_key z l ≡ true) (key_is l k f) (key_itself l)) ∙ e))

or_parts : (a b : Bool) → (a || b) ≡ false → (a ≡ false) × (b ≡ false)
or_parts true b e = cc
or_parts false b e = (refl, e)

-- the map of first values holds the first value of each key
pub first_holds : (fs : List First2) (k : Key) → held (first_map fs) k ≡ (first_held fs k).value
first_holds [] k = refl
first_holds (f ∷ fs) k = go (first_holds fs k) (same_key k f.key) refl
  where
    go : held (first_map fs) k ≡ (first_held fs k).value → (t : Bool) → same_key k f.key ≡ t → held (first_map (f ∷ fs)) k ≡ (first_held (f ∷ fs) k).value
    go ih true e = rw (same_back k f.key true e, e) refl
    go ih false e = rw (same_back k f.key false e, e) ih

-- writes of other keys change nothing
pub others_found : (ws : List Write) (m : List Entry) (k : Key) → writes_key k ws ≡ false → found (after_writes (map entry_written ws) m) k ≡ found m k
others_found [] m k n = refl
others_found (w ∷ ws) m k n =
    let a = or_parts (same_key k w.key) (writes_key k ws) n in
    others_found ws (entry w.key w.value ∷ m) k a.1 ∙ ap (λ (t : Bool). first_of t w.value (found m k)) (same_back k w.key false a.0)

pub others_hold : (cs : List CommittedExec) (m : List Entry) (k : Key) → ((c : CommittedExec) → IsIn c cs → writes_key k c.content.writes ≡ false) →
    found (map_of m cs) k ≡ found m k
others_hold [] m k n = refl
others_hold (c ∷ cs) m k n = others_hold cs (after_writes (map entry_written c.content.writes) m) k (λ d i. n d (inr i))
    ∙ others_found c.content.writes m k (n c (inl refl))

-- no entry of the key: no write of it
none_written : (x : Exec) (i : ℕ) (k : Key) (ws : List Write) → ((e : BaseEntry) → IsIn e (entries_of x i ws) → e.key ≡ k → ⊥) → writes_key k ws ≡ false
none_written x i k [] n = refl
none_written x i k (w ∷ ws) n = go (same_key k w.key) refl (none_written x (suc i) k ws (λ e j f. n e (inr j) f))
  where
    go : (t : Bool) → same_key k w.key ≡ t → writes_key k ws ≡ false → (t || writes_key k ws) ≡ false
    go true e r = absurd (n (record { key = w.key; wid = record { ver = x.ver; eid = x.eid; seq = i }; value = w.value }) (inl refl) (sym (key_is k w.key e)))
    go false e r = r

-- a later write of one execution has a greater name
later_wid : (a b : Wid) (i : ℕ) → a.ver ≡ b.ver → a.eid ≡ b.eid → a.seq ≡ i → suc i ≤ b.seq → wid_before a b ≡ true
unfolding wid_before before same_version
later_wid a b i v d q l = let t : a.ver.ts ≡ b.ver.ts = ap (λ (z : Version). z.ts) v in let c : a.ver.client ≡ b.ver.client = ap (λ (z : Version). z.client) v in
    grind (arith, nat_tests)

-- the last write of a key is what the map holds then
pub last_found : (x : Exec) (i : ℕ) (ws : List Write) (m : List Entry) (k : Key) (wid : Wid) (value : ℤ) →
    IsIn (record { key = k; wid = wid; value = value }) (entries_of x i ws) →
    ((e : BaseEntry) → IsIn e (entries_of x i ws) → e.key ≡ k → wid_before wid e.wid ≡ false)
    → found (after_writes (map entry_written ws) m) k ≡ Some value
last_found x i [] m k wid value j last = absurd j
last_found x i (w ∷ ws) m k wid value (inr j) last = last_found x (suc i) ws (entry w.key w.value ∷ m) k wid value j (λ e h f. last e (inr h) f)
last_found x i (w ∷ ws) m k wid value (inl z) last =
    let kz : k ≡ w.key = ap (λ (e : BaseEntry). e.key) z in
    let vz : value ≡ w.value = ap (λ (e : BaseEntry). e.value) z in
    let wz : wid ≡ record { ver = x.ver; eid = x.eid; seq = i } = ap (λ (e : BaseEntry). e.wid) z in
    others_found ws (entry w.key w.value ∷ m) k (none_written x (suc i) k ws (λ e h f. later wz e h f))
    ∙ ap (λ (t : Bool). first_of t w.value (found m k)) (subst (λ (y : Key). same_key w.key y ≡ true) (sym kz) (key_itself w.key)) ∙ ap Some (sym vz)
  where
    later : wid ≡ record { ver = x.ver; eid = x.eid; seq = i } → (e : BaseEntry) → IsIn e (entries_of x (suc i) ws) → e.key ≡ k → ⊥
    later wz e h f =
        let n = entry_wid x (suc i) ws e h in
        let low = last e (inr h) f in
        true_false (sym (later_wid wid e.wid i (ap (λ (u : Wid). u.ver) wz ∙ sym n.0) (ap (λ (u : Wid). u.eid) wz ∙ sym n.1) (ap (λ (u : Wid). u.seq) wz) n.2)
        ∙ low)

map_append : (as' bs : List CommittedExec) (m : List Entry) → map_of m (as' ++ bs) ≡ map_of (map_of m as') bs
map_append [] bs m = refl
map_append (a ∷ as') bs m = map_append as' bs (after_writes (map entry_written a.content.writes) m)

pub map_one_more : (as' : List CommittedExec) (c : CommittedExec) (m : List Entry) →
    map_of m (as' ++ c ∷ []) ≡ after_writes (map entry_written c.content.writes) (map_of m as')
map_one_more as' c m = map_append as' (c ∷ []) m

-- after an execution whose last write of the key this is, and more that do not write it
pub latest_found : (as' bs : List CommittedExec) (d : CommittedExec) (m : List Entry) (k : Key) (wid : Wid) (value : ℤ) →
    IsIn (record { key = k; wid = wid; value = value }) (entries_of d.exec 1 d.content.writes)
    → ((e : BaseEntry) → IsIn e (entries_of d.exec 1 d.content.writes) → e.key ≡ k → wid_before wid e.wid ≡ false)
    → ((c : CommittedExec) → IsIn c bs → writes_key k c.content.writes ≡ false) → found (map_of m (as' ++ d ∷ bs)) k ≡ Some value
latest_found as' bs d m k wid value i last none =
    ap (λ (n : List Entry). found n k) (map_append as' (d ∷ bs) m)
    ∙ others_hold bs (after_writes (map entry_written d.content.writes) (map_of m as')) k none
    ∙ last_found d.exec 1 d.content.writes (map_of m as') k wid value i last

-- a member of a list stands between two parts of it
pub split_at : {A : Type 0} (a : A) (xs : List A) → IsIn a xs → (ys : List A) × (zs : List A) × (xs ≡ ys ++ a ∷ zs)
split_at a [] i = absurd i
split_at {A = A} a (x ∷ xs) (inl e) = ([], xs, ap (λ (y : A). y ∷ xs) (sym e))
split_at {A = A} a (x ∷ xs) (inr i) = let k = split_at a xs i in (x ∷ k.0, k.1, ap (λ (l : List A). x ∷ l) k.2)

-- in a rising list, what stands before a member is before it, and what stands after it is after it
pub rising_before : {A : Type 0} (lt : A → A → Bool) (xs ys : List A) (a b : A) → IsRisingBy lt (xs ++ a ∷ ys) → IsIn b xs → lt b a ≡ true
rising_before lt [] ys a b r i = absurd i
rising_before {A = A} lt (x ∷ xs) ys a b r (inl e) = subst (λ (z : A). lt z a ≡ true) (sym e) (r.0 a (IsIn-right a xs (a ∷ ys) (inl refl)))
rising_before lt (x ∷ xs) ys a b r (inr i) = rising_before lt xs ys a b r.1 i

pub rising_after : {A : Type 0} (lt : A → A → Bool) (xs ys : List A) (a b : A) → IsRisingBy lt (xs ++ a ∷ ys) → IsIn b ys → lt a b ≡ true
rising_after lt [] ys a b r i = r.0 b i
rising_after lt (x ∷ xs) ys a b r i = rising_after lt xs ys a b r.1 i

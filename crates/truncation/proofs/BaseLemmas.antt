-- A write that is put at its place in a base is put there by the definition, and the base stays in order; and what is put
-- one after another is put list by list.
use Rattle.std.proofs.Common.{◌≡◌, ◌⊎◌, inl, inr, ℕ, zero, suc, ◌+◌, ◌<◌, ◌≤◌, Bool, true, false, cond, Option, Some, None, List, [], ◌∷◌, ◌++◌, length}
use Rattle.std.proofs.Common.{get_or, take, refl, ap, sym, subst, ◌∙◌, arith, add-one}
use Rattle.std.specs.Prelude.{flat_map}
use Rattle.std.specs.Bool.{then_some}
use Rattle.std.specs.List.{insert, slice_get, slice_set}
use Rattle.std.proofs.Math.Seq.{take-suc}
use Rattle.std.proofs.lemmas.List.{append-nil, take_all}
use Rattle.std.proofs.lemmas.Grind.{flat_map-append}
use Rattle.morty_base.proofs.Orders.{same_key_tells, key_before_total}
use Rattle.std.specs.Option.{option_and_then}
use Rattle.protocol.specs.Words.{Version, Exec, Key, Write, BaseEntry, key_before, same_key, wid_before}
use Rattle.protocol.specs.Lists.{IsIn}
use Rattle.protocol.specs.Warden.Base.{put_entry, put_entries, entries_of, content_entries, kept_entries, decided_entries_of, decided_entries, base_of}
use Rattle.protocol.specs.Warden.State.{DecidedProposal, FencedAnswer, WardenState}
use Rattle.truncation.specs.Base.{AreRising, IsPlace, entry_with, entry_of}

get_or_in : (xs : List BaseEntry) (i : ℕ) (d : BaseEntry) → i < length xs → IsIn (get_or xs i d) xs
get_or_in [] i d h = absurd (omega arith)
get_or_in (x ∷ xs) zero d h = inl refl
get_or_in (x ∷ xs) (suc i) d h = inr (get_or_in xs i d (omega arith))

-- in a rising list the entries of keys before k stand first
pub parted : (k : Key) (xs : List BaseEntry) → AreRising xs → (i j : ℕ) (d : BaseEntry) → i ≤ j → j < length xs → key_before (get_or xs j d).key k ≡ true
    → key_before (get_or xs i d).key k ≡ true
parted k [] r i j d h g e = absurd (omega arith)
parted k (x ∷ xs) r zero zero d h g e = e
parted k (x ∷ xs) r zero (suc j) d h g e = key_before_total.transitive x.key (get_or xs j d).key k (r.0 (get_or xs j d) (get_or_in xs j d (omega arith))) e
parted k (x ∷ xs) r (suc i) zero d h g e = absurd (omega arith)
parted k (x ∷ xs) r (suc i) (suc j) d h g e = parted k xs r.1 i j d (omega arith) (omega arith) e

not_same : (k l : Key) → key_before l k ≡ true → same_key k l ≡ false
not_same k l e = elim (same_key_tells k l) [
  | inl q ↦ let z : key_before l l ≡ true = subst (λ m. key_before l m ≡ true) q.1 e in let y : key_before l l
      ≡ false = key_before_total.irreflexive l in absurd cc
  | inr q ↦ q.0
]

not_after : (k l : Key) → key_before l k ≡ true → key_before k l ≡ false
not_after k l e = go (key_before k l) refl
  where
    go : (t : Bool) → key_before k l ≡ t → t ≡ false
    go true f = let z : key_before k k ≡ true = key_before_total.transitive k l k f e in let y : key_before k k
        ≡ false = key_before_total.irreflexive k in absurd cc
    go false f = refl

after_it : (k l : Key) → key_before l k ≡ false → same_key k l ≡ false → key_before k l ≡ true
after_it k l e f = go (key_before k l) refl
  where
    go : (t : Bool) → key_before k l ≡ t → t ≡ true
    go true g = refl
    go false g = let q : k ≡ l = key_before_total.total k l g e in elim (same_key_tells k l) [ inl s ↦ absurd (cc (s.0, f)) | inr s ↦ absurd (s.1 q) ]

-- what the code makes of an entry at its place
abbrev put_at : BaseEntry → List BaseEntry → ℕ → Option BaseEntry → List BaseEntry
put_at b xs i None = insert xs i b
put_at b xs i (Some c) = cond (same_key b.key c.key) (cond (wid_before c.wid b.wid) (slice_set xs i b) xs) (insert xs i b)

-- the same, where the entry of its key was looked up
abbrev pub put_on : BaseEntry → List BaseEntry → ℕ → Option BaseEntry → List BaseEntry
put_on b xs i None = insert xs i b
put_on b xs i (Some c) = cond (wid_before c.wid b.wid) (slice_set xs i b) xs

put_looked_up : (b : BaseEntry) (xs : List BaseEntry) (i : ℕ) (o : Option BaseEntry) → put_on b xs i (entry_with b.key o) ≡ put_at b xs i o
put_looked_up b xs i None = refl
put_looked_up b xs i (Some c) = go (same_key b.key c.key)
  where
    go : (t : Bool) → put_on b xs i (then_some t c) ≡ cond t (cond (wid_before c.wid b.wid) (slice_set xs i b) xs) (insert xs i b)
    go true = refl
    go false = refl

-- at its place an entry is put as the definition puts it
pub put_there : (b : BaseEntry) (xs : List BaseEntry) (i : ℕ) → i ≤ length xs → IsPlace b.key xs i → put_at b xs i (slice_get xs i) ≡ put_entry b xs
put_there b [] zero h p = refl
put_there b [] (suc i) h p = absurd (omega arith)
put_there b (c ∷ cs) zero h p = at_head (same_key b.key c.key) refl
  where
    at_head : (t : Bool) → same_key b.key c.key ≡ t
        → cond t (cond (wid_before c.wid b.wid) (b ∷ cs) (c ∷ cs)) (b ∷ c ∷ cs)
        ≡ cond t (cond (wid_before c.wid b.wid) (b ∷ cs) (c ∷ cs)) (cond (key_before b.key c.key) (b ∷ c ∷ cs) (c ∷ put_entry b cs))
    at_head true e = refl
    at_head false e = sym (ap (λ s. cond s (b ∷ c ∷ cs) (c ∷ put_entry b cs)) (after_it b.key c.key (p.1 0 c (omega arith) (omega arith)) e))
put_there b (c ∷ cs) (suc i) h p =
    let first : key_before c.key b.key ≡ true = p.0 0 c (omega arith) (omega arith) in
    later (slice_get cs i)
    ∙ ap (λ l. c ∷ l) (put_there b cs i (omega arith)
    (λ k d l m. p.0 (suc k) d (omega arith) (omega arith), λ k d l m. p.1 (suc k) d (omega arith) (omega arith)))
    ∙ sym (ap (λ s. cond s (cond (wid_before c.wid b.wid) (b ∷ cs) (c ∷ cs)) (cond (key_before b.key c.key) (b ∷ c ∷ cs) (c ∷ put_entry b cs)))
    (not_same b.key c.key first)
    ∙ ap (λ s. cond s (b ∷ c ∷ cs) (c ∷ put_entry b cs)) (not_after b.key c.key first))
  where
    later : (o : Option BaseEntry) → put_at b (c ∷ cs) (suc i) o ≡ c ∷ put_at b cs i o
    later None = refl
    later (Some d) = go (same_key b.key d.key) (wid_before d.wid b.wid)
      where
        go : (t u : Bool) → cond t (cond u (slice_set (c ∷ cs) (suc i) b) (c ∷ cs)) (insert (c ∷ cs) (suc i) b)
            ≡ c ∷ cond t (cond u (slice_set cs i b) cs) (insert cs i b)
        go true true = refl
        go true false = refl
        go false u = refl

-- an entry that is looked up at its place, and put on it
pub put_is : (b : BaseEntry) (xs : List BaseEntry) (i : ℕ) → i ≤ length xs → IsPlace b.key xs i → (o : Option BaseEntry) → o
    ≡ entry_with b.key (slice_get xs i) → put_on b xs i o ≡ put_entry b xs
put_is b xs i h p o e = ap (put_on b xs i) e ∙ put_looked_up b xs i (slice_get xs i) ∙ put_there b xs i h p

-- the same, where each list was lent
pub put_by : (b : BaseEntry) (xs ys zs : List BaseEntry) (i : ℕ) (o : Option BaseEntry) → ys ≡ xs → zs ≡ xs → i ≤ length ys
    → (AreRising ys → IsPlace b.key ys i) → AreRising xs
    → o ≡ entry_with b.key (slice_get zs i) → put_on b xs i o ≡ put_entry b xs
put_by b xs ys zs i o e f h p r q =
    put_is b xs i (subst (λ l. i ≤ length l) e h) (subst (λ l. IsPlace b.key l i) e (p (subst AreRising (sym e) r))) o
    (q ∙ ap (λ l. entry_with b.key (slice_get l i)) f)

found_within : (k : Key) (xs : List BaseEntry) (i : ℕ) (c : BaseEntry) → entry_with k (slice_get xs i) ≡ Some c → i < length xs
found_within k [] i c e = cc
found_within k (x ∷ xs) zero c e = omega arith
found_within k (x ∷ xs) (suc i) c e = let h = found_within k xs i c e in omega arith

-- an entry that is found at a place stands in the list
pub within_by : (k : Key) (xs zs : List BaseEntry) (i : ℕ) (o : Option BaseEntry) (c : BaseEntry) → zs ≡ xs → o ≡ entry_with k (slice_get zs i) → o ≡ Some c
    → i < length xs
within_by k xs zs i o c f q e = found_within k xs i c (sym (q ∙ ap (λ l. entry_with k (slice_get l i)) f) ∙ e)

put_in : (b : BaseEntry) (xs : List BaseEntry) (y : BaseEntry) → IsIn y (put_entry b xs) → (y ≡ b) ⊎ IsIn y xs
put_in b [] y i = i
put_in b (c ∷ cs) y i = go (same_key b.key c.key) (wid_before c.wid b.wid) (key_before b.key c.key) (put_in b cs y) i
  where
    go : (t u v : Bool) → (IsIn y (put_entry b cs) → (y ≡ b) ⊎ IsIn y cs)
        → IsIn y (cond t (cond u (b ∷ cs) (c ∷ cs)) (cond v (b ∷ c ∷ cs) (c ∷ put_entry b cs))) → (y ≡ b) ⊎ IsIn y (c ∷ cs)
    go true true v more (inl e) = inl e
    go true true v more (inr j) = inr (inr j)
    go true false v more j = inr j
    go false u true more (inl e) = inl e
    go false u true more (inr j) = inr j
    go false u false more (inl e) = inr (inl e)
    go false u false more (inr j) = elim (more j) [ inl e ↦ inl e | inr k ↦ inr (inr k) ]

same_is : (k l : Key) → same_key k l ≡ true → k ≡ l
same_is k l e = elim (same_key_tells k l) [ inl q ↦ q.1 | inr q ↦ absurd (cc (q.0, e)) ]

-- a base stays in order
pub put_rising : (b : BaseEntry) (xs : List BaseEntry) → AreRising xs → AreRising (put_entry b xs)
put_rising b [] r = (λ y i. absurd i, tt)
put_rising b (c ∷ cs) r = go (same_key b.key c.key) refl (wid_before c.wid b.wid) (key_before b.key c.key) refl (put_rising b cs r.1)
  where
    go : (t : Bool) → same_key b.key c.key ≡ t → (u v : Bool) → key_before b.key c.key ≡ v → AreRising (put_entry b cs)
        → AreRising (cond t (cond u (b ∷ cs) (c ∷ cs)) (cond v (b ∷ c ∷ cs) (c ∷ put_entry b cs)))
    go true e true v f more = (λ y i. subst (λ k. key_before k y.key ≡ true) (sym (same_is b.key c.key e)) (r.0 y i), r.1)
    go true e false v f more = r
    go false e u true f more = (
      λ y i. elim i [
        | inl q ↦ subst (λ (z : BaseEntry). key_before b.key z.key ≡ true)
            (sym q) f
        | inr j ↦ key_before_total.transitive b.key c.key y.key f (r.0 y j)
      ],
      r,
    )
    go false e u false f more =
        (λ y i. elim (put_in b cs y i) [ inl q ↦ subst (λ (z : BaseEntry). key_before c.key z.key ≡ true) (sym q) (before_it f) | inr j ↦ r.0 y j ], more)
      where
        before_it : key_before b.key c.key ≡ false → key_before c.key b.key ≡ true
        before_it f = after_it c.key b.key f (other (same_key c.key b.key) refl)
          where
            other : (t : Bool) → same_key c.key b.key ≡ t → t ≡ false
            other true s = let z : same_key b.key c.key ≡ true = subst (λ k. same_key k c.key ≡ true) (same_is c.key b.key s) (itself c.key) in absurd cc
              where
                itself : (k : Key) → same_key k k ≡ true
                itself k = elim (same_key_tells k k) [ inl q ↦ q.0 | inr q ↦ absurd (q.1 refl) ]
            other false s = refl

-- one list after another
pub puts_append : (base xs ys : List BaseEntry) → put_entries base (xs ++ ys) ≡ put_entries (put_entries base xs) ys
puts_append base [] ys = refl
puts_append base (x ∷ xs) ys = puts_append (put_entry x base) xs ys

-- one entry more
pub puts_one : (base xs : List BaseEntry) (i : ℕ) (d : BaseEntry) → i < length xs → put_entry (get_or xs i d) (put_entries base (take i xs))
    ≡ put_entries base (take (i + 1) xs)
puts_one base xs i d h = sym (ap (λ n. put_entries base (take n xs)) (add-one i) ∙ ap (put_entries base) (take-suc xs i d h)
    ∙ puts_append base (take i xs) (get_or xs i d ∷ []))

-- one part more
pub puts_part : {A : Type 0} (f : A → List BaseEntry) (base : List BaseEntry) (xs : List A) (i : ℕ) (d : A) → i < length xs
    → put_entries (put_entries base (flat_map f (take i xs))) (f (get_or xs i d)) ≡ put_entries base (flat_map f (take (i + 1) xs))
puts_part f base xs i d h =
    sym (ap (λ n. put_entries base (flat_map f (take n xs))) (add-one i)
    ∙ ap (λ l. put_entries base (flat_map f l)) (take-suc xs i d h)
    ∙ ap (put_entries base) (flat_map-append f (take i xs) (get_or xs i d ∷ []) ∙ ap (λ l. flat_map f (take i xs) ++ l) (append-nil (f (get_or xs i d))))
    ∙ puts_append base (flat_map f (take i xs)) (f (get_or xs i d)))

entries_more : (x : Exec) (j : ℕ) (ws : List Write) (i : ℕ) (d : Write) → i < length ws → entries_of x j (take (suc i) ws)
    ≡ entries_of x j (take i ws) ++ entry_of x (i + j) (get_or ws i d) ∷ []
entries_more x j [] i d h = absurd (omega arith)
entries_more x j (w ∷ ws) zero d h = ap (λ n. entry_of x n w ∷ []) (omega arith)
entries_more x j (w ∷ ws) (suc i) d h =
    ap (λ l. entry_of x j w ∷ l) (entries_more x (suc j) ws i d (omega arith)
    ∙ ap (λ n. entries_of x (suc j) (take i ws) ++ entry_of x n (get_or ws i d) ∷ []) (omega arith))

-- one write more
pub puts_write : (x : Exec) (base : List BaseEntry) (ws : List Write) (i : ℕ) (d : Write) → i < length ws
    → put_entry (entry_of x (i + 1) (get_or ws i d)) (put_entries base (entries_of x 1 (take i ws))) ≡ put_entries base (entries_of x 1 (take (i + 1) ws))
puts_write x base ws i d h = sym (ap (λ n. put_entries base (entries_of x 1 (take n ws))) (add-one i) ∙ ap (put_entries base) (entries_more x 1 ws i d h)
    ∙ puts_append base (entries_of x 1 (take i ws)) (entry_of x (i + 1) (get_or ws i d) ∷ []))

-- one content more, where what is put of it is f
pub puts_step : {A : Type 0} (f : A → List BaseEntry) (base : List BaseEntry) (xs : List A) (i : ℕ) (a : A) (old new : List BaseEntry) → i < length xs → a
    ≡ get_or xs i a
    → old ≡ put_entries base (flat_map f (take i xs)) → new ≡ put_entries old (f a) → new ≡ put_entries base (flat_map f (take (i + 1) xs))
puts_step f base xs i a old new h is before now =
    now ∙ (ap (λ l. put_entries l (f a)) before ∙ (ap (λ b. put_entries (put_entries base (flat_map f (take i xs))) (f b)) is ∙ puts_part f base xs i a h))

-- what the version leaves out is not put
pub puts_none : (t : Bool) (old new xs : List BaseEntry) → t ≡ true → new ≡ old → new ≡ put_entries old (cond t [] xs)
puts_none t old new xs e n = n ∙ ap (λ u. put_entries old (cond u [] xs)) (sym e)

pub puts_some : (t : Bool) (old new xs : List BaseEntry) → t ≡ false → new ≡ put_entries old xs → new ≡ put_entries old (cond t [] xs)
puts_some t old new xs e n = n ∙ ap (λ u. put_entries old (cond u [] xs)) (sym e)

-- a content that this warden decided is that of its decision
pub decided_is : (x : Exec) (o : Option DecidedProposal) → content_entries x (option_and_then (λ d. d.proposal.content) o) ≡ decided_entries_of x o
decided_is x None = refl
decided_is x (Some d) = refl

-- the base list by list
pub base_by_parts : (version : Version) (s : WardenState) (answers : List FencedAnswer)
    → put_entries (put_entries (put_entries [] (flat_map (λ (a : FencedAnswer). a.base) answers))
    (flat_map (λ (a : FencedAnswer). kept_entries version a.committed) answers))
    (flat_map (λ (a : FencedAnswer). decided_entries version s a.voted) answers)
    ≡ base_of version s answers
unfolding base_of
base_by_parts version s answers =
    let based = flat_map (λ (a : FencedAnswer). a.base) answers in
    let committed = flat_map (λ (a : FencedAnswer). kept_entries version a.committed) answers in
    let decided = flat_map (λ (a : FencedAnswer). decided_entries version s a.voted) answers in
    sym (puts_append [] based (committed ++ decided) ∙ puts_append (put_entries [] based) committed decided)

-- what three passes over the answers put is the base
pub base_made : (version : Version) (s : WardenState) (answers : List FencedAnswer) (i j k : ℕ) (b c d : List BaseEntry) → length answers ≤ i
    → length answers ≤ j → length answers ≤ k
    → b ≡ put_entries [] (flat_map (λ (a : FencedAnswer). a.base) (take i answers))
    → c ≡ put_entries b (flat_map (λ (a : FencedAnswer). kept_entries version a.committed) (take j answers))
    → d ≡ put_entries c (flat_map (λ (a : FencedAnswer). decided_entries version s a.voted) (take k answers))
    → d ≡ base_of version s answers
base_made version s answers i j k b c d li lj lk p q r =
    r ∙ ap (λ l. put_entries c (flat_map (λ (a : FencedAnswer). decided_entries version s a.voted) l)) (take_all k answers lk)
    ∙ ap (λ l. put_entries l (flat_map (λ (a : FencedAnswer). decided_entries version s a.voted) answers))
    (q ∙ ap (λ l. put_entries b (flat_map (λ (a : FencedAnswer). kept_entries version a.committed) l)) (take_all j answers lj)
    ∙ ap (λ l. put_entries l (flat_map (λ (a : FencedAnswer). kept_entries version a.committed) answers))
    (p ∙ ap (λ l. put_entries [] (flat_map (λ (a : FencedAnswer). a.base) l)) (take_all i answers li)))
    ∙ base_by_parts version s answers

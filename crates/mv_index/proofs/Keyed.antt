-- The readers of a key stand next to each other.
use Rattle.std.proofs.Common.{◌≡◌, inl, inr, ℕ, zero, suc, Bool, true, false, cond, List, [], ◌∷◌, take, drop, refl, ap, sym, subst, ◌∙◌, ◌&&◌}
use Rattle.std.specs.Prelude.{filter, not}
use Rattle.morty_base.proofs.Orders.{same_key_tells, key_before_total}
use Rattle.protocol.specs.Words.{Key, Version, before, key_before, same_key}
use Rattle.protocol.specs.Lists.{IsIn}
use Rattle.protocol.proofs.TestLemmas.{and_left, and_right}
use Rattle.mv_index.specs.declared.reader_list.Reader.{Reader}
use Rattle.mv_index.specs.ReaderList.{prefix, stands_before, IsInOrder}
use Rattle.mv_index.proofs.Sorted.{is_key, or_cases, or_left, or_right, both, false_where, stands_down}

pub order_drop : (i : ℕ) (rs : List Reader) → IsInOrder rs → IsInOrder (drop i rs)
order_drop zero rs o = o
order_drop (suc i) [] o = o
order_drop (suc i) (r ∷ rs) o = order_drop i rs o.1

-- of two readers in order the first one's key is not above the other's
pub key_up_to : (r s : Reader) → stands_before s.key s.ver r ≡ true → key_before s.key r.key ≡ false
key_up_to r s e = go (key_before s.key r.key) refl
  where
    go : (t : Bool) → key_before s.key r.key ≡ t → t ≡ false
    go false f = refl
    go true f = elim (or_cases (key_before r.key s.key) (same_key r.key s.key && before r.ver s.ver) e) [
      | inl g ↦ let z : key_before r.key r.key ≡ true = key_before_total.transitive r.key s.key r.key g f in
          let y : key_before r.key r.key ≡ false = key_before_total.irreflexive r.key in absurd (cc (z, y))
      | inr g ↦
          let q : r.key ≡ s.key = is_key r.key s.key (and_left (same_key r.key s.key) (before r.ver s.ver) g) in
          let z : key_before s.key s.key ≡ true = subst (λ k. key_before s.key k ≡ true) q f in
          let y : key_before s.key s.key ≡ false = key_before_total.irreflexive s.key in
          absurd (cc (z, y))
    ]

pub end_down : (k : Key) (r s : Reader) → stands_before s.key s.ver r ≡ true → not (key_before k s.key) ≡ true → not (key_before k r.key) ≡ true
end_down k r s e f = go (key_before k r.key) refl
  where
    up : key_before k r.key ≡ true → key_before k s.key ≡ true
    up g = elim (or_cases (key_before r.key s.key) (same_key r.key s.key && before r.ver s.ver) e) [
      | inl h ↦ key_before_total.transitive k r.key s.key g h
      | inr h ↦ subst (λ l. key_before k l ≡ true) (is_key r.key s.key (and_left (same_key r.key s.key) (before r.ver s.ver) h)) g
    ]

    go : (t : Bool) → key_before k r.key ≡ t → not t ≡ true
    go false g = refl
    go true g = let z : key_before k s.key ≡ true = up g in absurd (cc (z, f))

pub below_other : (k l : Key) → key_before k l ≡ true → same_key k l ≡ false
below_other k l e = elim (same_key_tells k l) [
  | inl q ↦ let z : key_before k k ≡ true = subst (λ m. key_before k m ≡ true) (sym q.1) e in
      let y : key_before k k ≡ false = key_before_total.irreflexive k in absurd (cc (z, y))
  | inr q ↦ q.0
]

pub above_other : (k l : Key) → key_before l k ≡ true → same_key k l ≡ false
above_other k l e = elim (same_key_tells k l) [
  | inl q ↦ let z : key_before k k ≡ true = subst (λ m. key_before m k ≡ true) (sym q.1) e in
      let y : key_before k k ≡ false = key_before_total.irreflexive k in absurd (cc (z, y))
  | inr q ↦ q.0
]

pub neither_same : (k l : Key) → key_before k l ≡ false → key_before l k ≡ false → same_key k l ≡ true
neither_same k l e f = let q : k ≡ l = key_before_total.total k l e f in elim (same_key_tells k l) [ inl s ↦ s.0 | inr s ↦ absurd (s.1 q) ]

filter_none : (k : Key) (rs : List Reader) → ((y : Reader) → IsIn y rs → same_key k y.key ≡ false) → filter (λ (r : Reader). same_key k r.key) rs ≡ []
filter_none k [] h = refl
filter_none k (r ∷ rs) h = ap (λ t. cond t (r ∷ filter (λ (r : Reader). same_key k r.key) rs) (filter (λ (r : Reader). same_key k r.key) rs)) (h r (inl refl))
    ∙ filter_none k rs (λ y i. h y (inr i))

front_keyed : (k : Key) (rs : List Reader) → IsInOrder rs → ((y : Reader) → IsIn y rs → key_before y.key k ≡ false) →
    take (prefix (λ (r : Reader). not (key_before k r.key)) rs) rs ≡ filter (λ (r : Reader). same_key k r.key) rs
front_keyed k [] o h = refl
front_keyed k (s ∷ ss) o h = go (key_before k s.key) refl (front_keyed k ss o.1 (λ y i. h y (inr i)))
  where
    go : (t : Bool) → key_before k s.key ≡ t → take (prefix (λ (r : Reader). not (key_before k r.key)) ss) ss ≡ filter (λ (r : Reader). same_key k r.key) ss →
        take (cond (not t) (suc (prefix (λ (r : Reader). not (key_before k r.key)) ss)) 0) (s ∷ ss)
        ≡ cond (same_key k s.key) (s ∷ filter (λ (r : Reader). same_key k r.key) ss) (filter (λ (r : Reader). same_key k r.key) ss)
    go false e more =
        ap (λ l. s ∷ l) more
        ∙ sym (ap (λ t. cond t (s ∷ filter (λ (r : Reader). same_key k r.key) ss) (filter (λ (r : Reader). same_key k r.key) ss))
        (neither_same k s.key e (h s (inl refl))))
    go true e more =
        sym (ap (λ t. cond t (s ∷ filter (λ (r : Reader). same_key k r.key) ss) (filter (λ (r : Reader). same_key k r.key) ss)) (below_other k s.key e)
        ∙ filter_none k ss (λ y i. below_other k y.key (over y (o.0 y i))))
      where
        over : (y : Reader) → stands_before y.key y.ver s ≡ true → key_before k y.key ≡ true
        over y f = elim (or_cases (key_before s.key y.key) (same_key s.key y.key && before s.ver y.ver) f) [
          | inl g ↦ key_before_total.transitive k s.key y.key e g
          | inr g ↦ subst (λ l. key_before k l ≡ true) (is_key s.key y.key (and_left (same_key s.key y.key) (before s.ver y.ver) g)) e
        ]

filter_alike : (p q : Reader → Bool) (rs : List Reader) → ((y : Reader) → IsIn y rs → p y ≡ q y) → filter p rs ≡ filter q rs
filter_alike p q [] h = refl
filter_alike p q (r ∷ rs) h = ap (λ t. cond t (r ∷ filter p rs) (filter p rs)) (h r (inl refl))
    ∙ ap (λ l. cond (q r) (r ∷ l) l) (filter_alike p q rs (λ y i. h y (inr i)))

-- a reader of the key, at or above the version
abbrev pub reads_from : Key → Version → Reader → Bool
reads_from k v r = same_key k r.key && not (before r.ver v)

same_turned : (k l : Key) → same_key k l ≡ true → same_key l k ≡ true
same_turned k l e = subst (λ m. same_key m k ≡ true) (is_key k l e) (subst (λ m. same_key k m ≡ true) (sym (is_key k l e)) e)

stands_apart : (k : Key) (v : Version) (r : Reader) → stands_before k v r ≡ true → reads_from k v r ≡ false
stands_apart k v r e = elim (or_cases (key_before r.key k) (same_key r.key k && before r.ver v) e) [
  | inl g ↦ ap (λ t. t && not (before r.ver v)) (above_other k r.key g)
  | inr g ↦ ap (λ t. same_key k r.key && not t) (and_right (same_key r.key k) (before r.ver v) g) ∙ never (same_key k r.key)
]
  where
    never : (a : Bool) → (a && false) ≡ false
    never true = refl
    never false = refl

stands_from : (k : Key) (v : Version) (r : Reader) → stands_before k v r ≡ false → same_key k r.key ≡ reads_from k v r
stands_from k v r e = go (same_key k r.key) refl (before r.ver v) refl
  where
    go : (a : Bool) → same_key k r.key ≡ a → (b : Bool) → before r.ver v ≡ b → a ≡ (a && not b)
    go false f b g = refl
    go true f false g = refl
    go true f true g =
        let z : stands_before k v r ≡ true = or_right (key_before r.key k) (same_key r.key k && before r.ver v)
        (both (same_key r.key k) (before r.ver v) (same_turned k r.key f) g) in
        absurd (cc (z, e))

-- the readers of a key from a version on stand next to each other
pub keyed_from : (k : Key) (v : Version) (rs : List Reader) → IsInOrder rs → let rest = drop (prefix (stands_before k v) rs) rs in
    take (prefix (λ (r : Reader). not (key_before k r.key)) rest) rest ≡ filter (reads_from k v) rs
keyed_from k v [] o = refl
keyed_from k v (s ∷ ss) o = go (stands_before k v s) refl (keyed_from k v ss o.1)
  where
    go : (t : Bool) → stands_before k v s ≡ t → (let rest = drop (prefix (stands_before k v) ss) ss in
        take (prefix (λ (r : Reader). not (key_before k r.key)) rest) rest ≡ filter (reads_from k v) ss) →
        let rest = drop (cond t (suc (prefix (stands_before k v) ss)) 0) (s ∷ ss) in
        take (prefix (λ (r : Reader). not (key_before k r.key)) rest) rest ≡ filter (reads_from k v) (s ∷ ss)
    go true e more = more ∙ sym (ap (λ t. cond t (s ∷ filter (reads_from k v) ss) (filter (reads_from k v) ss)) (stands_apart k v s e))
    go false e more =
        front_keyed k (s ∷ ss) o (λ y i. false_where (key_before y.key k) (λ f. cc (
          or_left (key_before y.key k)
              (same_key y.key k && before y.ver v) f,
          none y i,
        )))
        ∙ filter_alike (λ (r : Reader). same_key k r.key) (reads_from k v) (s ∷ ss) (λ y i. stands_from k v y (none y i))
      where
        none : (y : Reader) → IsIn y (s ∷ ss) → stands_before k v y ≡ false
        none y (inl q) = subst (λ (z : Reader). stands_before k v z ≡ false) (sym q) e
        none y (inr j) = false_where (stands_before k v y) (λ f. cc (stands_down k v s y (o.0 y j) f, e))
